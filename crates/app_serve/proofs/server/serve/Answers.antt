-- What is left by the document with what is asked, or whatever it is if it can't be read.
use Rattle.std.proofs.Common.{List, ℕ, [], ◌∷◌, Err, ap, subst, sym}
use Rattle.app_arguments.specs.ConditionViews.{fail_on_view}
use Rattle.app_arguments.specs.Statuses.{MayBeUnread, OfConnections, OfNamed, ServiceMayFail}
use Rattle.app_arguments.specs.Views.{format_view, place_view}
use Rattle.pd_spec.specs.Views.{options_view}
use Rattle.app_serve.specs.Kept.{AsksForFiles}
use Rattle.app_serve.specs.ServiceFaults.{named_service_ending}
use Rattle.app_host.specs.FileSources.{IsReadOf}
use Rattle.app_serve.specs.Served.{IsServed}
use Rattle.app_serve.proofs.Accepted.{service_of_file}
use Rattle.app_serve.proofs.UnreadServices.{unread_service}
use Rattle.app_serve.proofs.server.serve.Goals as goal

pub returns-in-Ok : goal.returns-in-Ok
returns-in-Ok g c =
    let service = c.args.host.now.service.now in
    let fail_on = fail_on_view service.fail_on in
    let network = c.args.host.now.network.now in
    let file = g.Y.Files.FileSource.file_of c.args.host.now.files.now service.spec.now in
    let read : IsReadOf c.deref.result.now file.source =
    subst (λ (bytes : List ℕ). IsReadOf bytes file.source) (sym c.deref.ensures.value) c.in-Ok.ensures.document in
    service_of_file (format_view service.format) (options_view service.options) file c.deref.result.now
    (MayBeUnread (file ∷ []) (file ∷ [])) (g.Y.Network.Network.may_give network (place_view service.place))
    (ServiceMayFail service.wait g.Y.Network.Network.never_fails) (AsksForFiles service) fail_on
    (named_service_ending fail_on c.serve_document.result) (g.O.Write.contents c.args.output.now)
    (g.O.Write.contents c.serve_document.new.output) read c.serve_document.ensures

pub returns-in-Err : goal.returns-in-Err
returns-in-Err g c =
    let service = c.args.host.now.service.now in
    let fail_on = fail_on_view service.fail_on in
    let file = g.Y.Files.FileSource.file_of c.args.host.now.files.now service.spec.now in
    unread_service (options_view service.options) file (MayBeUnread (file ∷ []) (file ∷ []))
    (OfNamed fail_on (OfConnections (IsServed (format_view service.format))
    (g.Y.Network.Network.may_give c.args.host.now.network.now
    (place_view service.place))
    (ServiceMayFail service.wait g.Y.Network.Network.never_fails) (AsksForFiles service) fail_on))
    (g.O.Write.contents c.args.output.now) fail_on c.in-Err.fault c.in-Err.ensures.err
    (λ e. c.in-Err.ensures.unread (ap Err e))
