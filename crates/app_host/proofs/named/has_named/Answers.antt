-- Each predicate that is named is there, or there is none to look up.
use Rattle.std.proofs.Common.{◌≡◌, List, None, ap, not, sym, subst, ◌∙◌}
use Rattle.app_arguments.specs.ConditionViews.{fail_on_view}
use Rattle.app_arguments.specs.Conditions.{unknown_name}
use Rattle.judge_runs.specs.Wishes.{names_of}
use Rattle.def_format.specs.Documents.{NamedPredicate}
use Rattle.judge_session.specs.Inquiries.{inquiry_view}
use Rattle.pd_spec.specs.Views.{document_view}
use Rattle.app_host.proofs.NamedPredicates.{has_of_none, has_of_read, has_of_refused, none_found, refused_unless_memory}
use Rattle.app_host.proofs.named.has_named.Goals as goal

pub returns-then-not-has_names-clause-yes : goal.returns-then-not-has_names-clause-yes
returns-then-not-has_names-clause-yes c = λ _.
    has_of_none (fail_on_view c.args.fail_on.now) (inquiry_view c.args.inquiry)
    (sym c.has_names.ensures ∙ c.if-not-has_names.true)

pub returns-in-Ok-clause-yes : goal.returns-in-Ok-clause-yes
returns-in-Ok-clause-yes c = λ yes.
    let fail_on = fail_on_view c.args.fail_on.now in
    has_of_read fail_on (inquiry_view c.args.inquiry) (document_view c.in-Ok.spec) c.one_document.ensures.single
    c.in-Ok.ensures.ok
    (subst (λ (predicates : List NamedPredicate). unknown_name (names_of predicates) fail_on ≡ None)
    c.predicates.ensures (none_found c.unknown_name.result _ c.unknown_name.ensures (c.is_none.ensures ∙ ap not yes)))

pub returns-else-is_out_of_memory-clause-yes : goal.returns-else-is_out_of_memory-clause-yes
returns-else-is_out_of_memory-clause-yes c = λ _.
    let inquiry = inquiry_view c.args.inquiry in
    let refused = refused_unless_memory inquiry c.in-Err.fault
    (sym c.is_out_of_memory.ensures ∙ c.if-is_out_of_memory.false) c.in-Err.ensures.err in
    has_of_refused (fail_on_view c.args.fail_on.now) inquiry refused.0 c.one_document.ensures.not_refused refused.1
