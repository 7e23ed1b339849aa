-- By whether each predicate that is named is there.
use Rattle.std.proofs.Common.{◌≡◌, List, None, ap, not, subst, ◌∙◌}
use Rattle.app_arguments.specs.ConditionViews.{fail_on_view}
use Rattle.app_arguments.specs.Conditions.{unknown_name}
use Rattle.judge_runs.specs.Wishes.{names_of}
use Rattle.app_arguments.specs.Statuses.{ServiceMayFail}
use Rattle.app_arguments.specs.Views.{format_view, place_view}
use Rattle.def_format.specs.Documents.{NamedPredicate}
use Rattle.judge_session.specs.Inquiries.{inquiry_view}
use Rattle.pd_spec.specs.Views.{document_view}
use Rattle.app_host.proofs.NamedPredicates.{has_of_read, none_found}
use Rattle.app_serve.specs.Kept.{AsksForFiles}
use Rattle.app_serve.proofs.Accepted.{named_service}
use Rattle.app_serve.proofs.server.serve_named.Goals as goal

pub returns-then-is_none : goal.returns-then-is_none
returns-then-is_none g c =
    let service = c.args.host.now.service.now in
    let fail_on = fail_on_view service.fail_on in
    let inquiry = inquiry_view c.args.inquiry in
    let has = has_of_read fail_on inquiry (document_view c.args.spec.now) c.one_document.ensures.single
    c.requires.document
    (subst (λ (predicates : List NamedPredicate). unknown_name (names_of predicates) fail_on ≡ None)
    c.predicates.ensures (none_found c.unknown_name.result _ c.unknown_name.ensures
    (c.is_none.ensures ∙ ap not c.if-is_none.true))) in
    named_service (format_view service.format) inquiry (g.N.Network.may_give c.args.host.now.network.now
    (place_view service.place))
    (ServiceMayFail service.wait g.N.Network.never_fails) (AsksForFiles service) fail_on
    c.serve_kept.result c.named_end.result (g.O.Write.contents c.args.output.now)
    (g.O.Write.contents c.serve_kept.new.output) has (c.named_end.ensures fail_on) (c.serve_kept.ensures fail_on)
