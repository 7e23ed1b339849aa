-- What the loop of `answer_each` keeps: the answers so far.
use Rattle.std.proofs.Common.{◌≡◌, ◌<◌, ◌*◌, ◌+◌, ℕ, Bor, get_or, length}
use Rattle.def_model.specs.Predicates.{test_of}
use Rattle.pd_pred.specs.Views.{predicate_view}
use Rattle.pd_pred.specs.declared.predicate.Pred.{Pred}
use Rattle.walk_back.specs.Answers.{AreAnswers}
use Rattle.walk_back.specs.declared.answers.Answers.{Answers}
use Rattle.walk.proofs.all.answer_each.Given as goal

abbrev pub invariant-loop-i : goal.invariant-loop-i
invariant-loop-i g l = record {
  one_each : length l.answers.items ≡ l.i;
  each : (j : ℕ) (pred : Bor Pred) (answer : Answers) → j < l.i → AreAnswers l.computation.events
      (test_of l.computation (predicate_view (get_or l.preds j pred).now)) l.width (2 * l.gap + 2)
      (get_or l.answers.items j answer);
}
