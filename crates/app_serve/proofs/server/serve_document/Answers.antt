-- A document that is refused has no predicates to look up.
use Rattle.app_arguments.specs.ConditionViews.{fail_on_view}
use Rattle.app_arguments.specs.Views.{format_view, place_view}
use Rattle.app_arguments.specs.Statuses.{ServiceMayFail}
use Rattle.app_arguments.specs.Views.{text_view}
use Rattle.def_format.specs.Documents.{inquiry_of}
use Rattle.pd_spec.specs.Views.{options_view}
use Rattle.app_serve.specs.Kept.{AsksForFiles}
use Rattle.app_serve.proofs.Accepted.{refused_service}
use Rattle.app_serve.proofs.server.serve_document.Goals as goal

pub returns-in-Err : goal.returns-in-Err
returns-in-Err g c =
    let service = c.args.host.now.service.now in
    refused_service (format_view service.format) (inquiry_of (options_view service.options) c.args.document.now)
    (g.Y.Network.Network.may_give c.args.host.now.network.now (place_view service.place))
    (ServiceMayFail service.wait g.Y.Network.Network.never_fails) (AsksForFiles service) (fail_on_view service.fail_on)
    c.in-Err.fault c.refuse_document.result c.named_end.result (g.O.Write.contents c.args.output.now)
    (g.O.Write.contents c.refuse_document.new.output) c.one_document.ensures.not_refused c.in-Err.ensures.err
    c.refuse_document.ensures.memory (c.named_end.ensures (fail_on_view service.fail_on))
    (c.refuse_document.ensures.written (place_view service.place) (fail_on_view service.fail_on) service.wait
    (text_view service.keep) (text_view service.port_file))
