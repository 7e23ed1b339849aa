-- What is known of the only predicate.
use Rattle.std.proofs.Common.{sym, ◌∙◌, subst, arith}
use Rattle.walk_back.specs.Answers.{possibly_answer_view}
use Rattle.walk_back.specs.declared.possibly_answer.PossiblyAnswer.{PossiblyAnswer}
use Rattle.def_model.specs.Answers.{IsPossiblyAnswer}
use Rattle.def_model.specs.Predicates.{test_of}
use Rattle.pd_pred.specs.Views.{predicate_view}
use Rattle.walk.specs.Stages.{Stands}
use Rattle.walk.specs.declared.stage.Stage.{Stage}
use Rattle.walk.proofs.Standing.{known_right}
use Rattle.walk.proofs.one.possibly_by_runs.Goals as goal

pub returns : goal.returns
returns g c =
    subst (λ (answer : PossiblyAnswer). IsPossiblyAnswer c.args.computation.now.events
    (test_of c.args.computation.now (predicate_view c.args.pred.now)) c.args.width (possibly_answer_view answer))
    (sym c.possibly_after.ensures)
    (known_right c.possibly_walk.ensures.none c.args.computation.now.events
    (test_of c.args.computation.now (predicate_view c.args.pred.now)) c.args.width c.least_root-gap.result
    c.in_ok-stages.ensures.level c.remove.result
    (subst (λ (stage : Stage).
    Stands c.args.computation.now.events (test_of c.args.computation.now (predicate_view c.args.pred.now))
    c.args.width c.least_root-gap.result c.in_ok-stages.ensures.level stage) (sym c.remove.ensures.value)
    (c.in_ok-stages.ensures.each 0 c.args.pred c.remove.result (omega arith)))
    (λ is. c.in_ok-stages.ensures.last 0 c.remove.result (omega (arith, c.in_ok-stages.ensures.one_each))
    (sym c.remove.ensures.value ∙ is)))
