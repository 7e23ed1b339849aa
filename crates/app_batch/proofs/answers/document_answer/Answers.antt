-- A document that has each predicate that is named.
use Rattle.std.proofs.Common.{◌≡◌, ◌∙◌, List, ap, inl, string_bytes, subst, sym}
use Rattle.std.specs.Prelude.{None}
use Rattle.std.proofs.lemmas.Result.{IfOk-weaker}
use Rattle.def_format.specs.Documents.{Inquiry, NamedPredicate, inquiry_of}
use Rattle.judge_runs.specs.Wishes.{names_of}
use Rattle.app_arguments.specs.ConditionViews.{fail_on_view, name_view}
use Rattle.app_arguments.specs.Conditions.{unknown_name}
use Rattle.app_host.proofs.NamedPredicates.{has_of_read}
use Rattle.pd_spec.specs.Views.{document_view, options_view}
use Rattle.app_batch.proofs.answers.document_answer.Goals as goal

pub returns-in-None-clause-answer : goal.returns-in-None-clause-answer
returns-in-None-clause-answer g c =
    let fail_on = fail_on_view c.args.asked.now.fail_on.now in
    let inquiry : Inquiry =
    inquiry_of (options_view c.args.asked.now.options.now) (string_bytes c.args.session.now.document) in
    let read = document_view c.args.spec.now in
    let known : unknown_name (names_of read.predicates) fail_on ≡ None =
    subst (λ (named : List NamedPredicate). unknown_name (names_of named) fail_on ≡ None) c.predicates.ensures
    (sym c.unknown_name.ensures ∙ ap name_view c.in-None.is) in
    IfOk-weaker c.judged_answer.result _ _ (λ answer is.
    inl (has_of_read fail_on inquiry read c.one_document.ensures.single c.requires.document known, is))
    c.judged_answer.ensures.answer
