-- The verdicts so far.
use Rattle.std.proofs.Common.{◌≡◌, ◌<◌, List, length, map, take, refl, sym, subst, arith}
use Rattle.std.specs.Prelude.{string_bytes, zip}
use Rattle.std.specs.List.{AllZip}
use Rattle.std.proofs.lemmas.Bool.{false≢true}
use Rattle.std.proofs.lemmas.List.{take_all}
use Rattle.def_format.specs.Names.{ProcessNames}
use Rattle.pd_report.specs.declared.answer.Answer.{Answer}
use Rattle.pd_spec.specs.declared.named.NamedPred.{NamedPred}
use Rattle.pd_report.specs.Views.{answer_view}
use Rattle.pd_spec.specs.Named.{named_view}
use Rattle.pd_spec.specs.Views.{document_view}
use Rattle.judge_check.specs.Views.{checked_view}
use Rattle.judge_check.specs.Verdicts.{IsCheckedBy}
use Rattle.judge_check.proofs.CheckedAnswers.{all_checked, other_names}
use Rattle.judge_check.proofs.Zips.{pairs_push, same_length}
use Rattle.judge_check.proofs.evidence.verdicts.Goals as goal

pub returns-then-not-are_for : goal.returns-then-not-are_for
returns-then-not-are_for c traces seen =
    other_names (document_view c.args.spec.now) traces c.predicates-asked.result.now c.args.answers.now
    c.predicates-asked.ensures (λ same. false≢true (c.if-not-are_for.ensures.1 same))

pub loop-i-preserved : goal.loop-i-preserved
loop-i-preserved c =
    let asked : List NamedPred = c.predicates-asked.result.now in
    let names : List ProcessNames = (document_view c.args.spec.now).names in
    let same : length c.args.answers.now ≡ length asked =
    same_length (λ (answer : Answer). string_bytes answer.name) (λ (predicate : NamedPred).
    string_bytes predicate.name) c.args.answers.now asked (c.if-not-are_for.ensures.0 refl) in
    let lt : c.loop-i.i < length asked = omega (arith, c.loop-i-test.true, same) in
    let here : IsCheckedBy names c.args.computation.now (
      named_view c.index-asked-i.result,
      answer_view c.index-answers-i.result,
    ) (checked_view c.in_ok-answer_verdicts.field-0) =
    subst (λ (n : List ProcessNames). IsCheckedBy n c.args.computation.now (
      named_view c.index-asked-i.result,
      answer_view c.index-answers-i.result,
    ) (checked_view c.in_ok-answer_verdicts.field-0)) c.names.ensures
    c.in_ok-answer_verdicts.ensures in
    rw c.in_ok-push.ensures.items
    (pairs_push (IsCheckedBy names c.args.computation.now) named_view answer_view checked_view asked c.args.answers.now
    c.loop-i.verdicts.items c.loop-i.i c.index-asked-i.result c.index-answers-i.result c.in_ok-answer_verdicts.field-0
    (sym same) lt c.index-asked-i.is c.index-answers-i.is c.loop-i.invariant here)

pub returns : goal.returns
returns c traces seen =
    let asked : List NamedPred = c.predicates-asked.result.now in
    let names : List ProcessNames = (document_view c.args.spec.now).names in
    let same : length c.args.answers.now ≡ length asked =
    same_length (λ (answer : Answer). string_bytes answer.name) (λ (predicate : NamedPred).
    string_bytes predicate.name) c.args.answers.now asked (c.if-not-are_for.ensures.0 refl) in
    let all_answers : take c.loop-i.i c.args.answers.now ≡ c.args.answers.now =
    take_all c.loop-i.i c.args.answers.now (omega arith) in
    let all_asked : take c.loop-i.i asked ≡ asked = take_all c.loop-i.i asked (omega arith) in
    let all : AllZip (IsCheckedBy names c.args.computation.now)
    (zip (map named_view asked) (map answer_view c.args.answers.now)) (map checked_view c.loop-i.verdicts.items) =
    subst (λ (answers : List Answer). AllZip (IsCheckedBy names c.args.computation.now)
    (zip (map named_view asked) (map answer_view answers)) (map checked_view c.loop-i.verdicts.items)) all_answers
    (subst (λ (predicates : List NamedPred).
    AllZip (IsCheckedBy names c.args.computation.now)
    (zip (map named_view predicates) (map answer_view (take c.loop-i.i c.args.answers.now)))
    (map checked_view c.loop-i.verdicts.items)) all_asked c.loop-i.invariant) in
    all_checked (document_view c.args.spec.now) traces c.args.computation.now asked c.args.answers.now
    (map checked_view c.loop-i.verdicts.items) c.predicates-asked.ensures (c.if-not-are_for.ensures.0 refl) seen all
