-- There is an answer for each predicate.
use Rattle.std.proofs.Common.{◌≡◌, ◌+◌, List, [], ◌∷◌, ◌++◌, map, take, sym, ap, ◌∙◌, subst}
use Rattle.std.specs.Prelude.{slice_index_or}
use Rattle.std.proofs.lemmas.List.{take_more, map-append}
use Rattle.judge_lifted.specs.Lifted.{IsLifted}
use Rattle.judge_lifted.specs.Truths.{IsTruthOf}
use Rattle.judge_lifted.proofs.Zips.{all_zip_push, same_length, zip_at}
use Rattle.pd_report.specs.Views.{answer_view}
use Rattle.pd_report.specs.declared.answer.Answer.{Answer}
use Rattle.pd_spec.specs.Named.{named_view}
use Rattle.pd_spec.specs.declared.named.NamedPred.{NamedPred}
use Rattle.judge_lifted.proofs.truths.all_lifted.Goals as goal

pub bounds-answers-i : goal.bounds-answers-i
bounds-answers-i c =
    rw (same_length (IsTruthOf c.args.computation.now) named_view answer_view c.args.predicates.now c.args.answers.now
    c.requires) c.loop-i-test.true

pub lifted_answer-requires : goal.lifted_answer-requires
lifted_answer-requires c =
    subst (λ (asked : NamedPred). IsTruthOf c.args.computation.now (named_view asked)
    (answer_view c.index-answers-i.result)) (sym c.index-predicates-i.is)
    (subst (λ (answer : Answer). IsTruthOf c.args.computation.now
    (named_view (slice_index_or c.args.predicates.now c.loop-i.i c.index-predicates-i.result)) (answer_view answer))
    (sym c.index-answers-i.is)
    (zip_at (IsTruthOf c.args.computation.now) named_view answer_view c.args.predicates.now c.args.answers.now
    c.loop-i.i c.index-predicates-i.result c.index-answers-i.result c.requires c.loop-i-test.true))

pub loop-i-preserved : goal.loop-i-preserved
loop-i-preserved c =
    let asked : List NamedPred = c.args.predicates.now in
    let next : NamedPred = c.index-predicates-i.result in
    let more : take (c.loop-i.i + 1) asked ≡ take c.loop-i.i asked ++ next ∷ [] =
    take_more asked c.loop-i.i next c.loop-i-test.true
    ∙ ap (λ (p : NamedPred). take c.loop-i.i asked ++ p ∷ []) (sym c.index-predicates-i.is) in
    let named : map named_view (take (c.loop-i.i + 1) asked)
    ≡ map named_view (take c.loop-i.i asked) ++ named_view next ∷ [] =
    ap (map named_view) more ∙ map-append named_view (take c.loop-i.i asked) (next ∷ []) in
    rw (named, c.in_ok-push.ensures.items)
    (all_zip_push (IsLifted c.args.computation.now) (map named_view (take c.loop-i.i asked)) c.loop-i.lifted.items
    (named_view next) c.in_ok-lifted_answer.field-0 c.loop-i.invariant c.in_ok-lifted_answer.ensures)
