-- What holds of the tasks of a round.
use Rattle.std.proofs.Common.{◌≡◌, ℕ, get_or, sym, ap, ◌∙◌, subst, arith}
use Rattle.def_model.specs.Predicates.{Recorded}
use Rattle.walk_runs.specs.Levels.{WholeLevel}
use Rattle.walk_tables.specs.Views.{CompiledView}
use Rattle.walk.specs.Rounds.{IsBeforeRound, IsNextOfWhole}
use Rattle.walk.specs.Seen.{IsSeen, IsSeenAt}
use Rattle.walk.specs.Stages.{IsOpenBelow, OneStands}
use Rattle.walk.specs.Tasks.{IsBeforeTask, IsTaskOf, StandsAt, task_events, task_test}
use Rattle.walk.specs.Turns.{IsSeenIn}
use Rattle.walk.specs.declared.round.Round.{Round}
use Rattle.walk.specs.declared.seen.Seen.{Seen}
use Rattle.walk.specs.declared.stage.Stage.{Stage}
use Rattle.walk.specs.declared.task.Task.{Task}

module _ {K : Type 0} (round : Round K) (i : ℕ) (task : Task K) (of : IsTaskOf round i task) where
  -- the level before that of the round is the one before that of the task
  pub before_task : (before : WholeLevel) → IsBeforeRound before round → IsBeforeTask before task
  before_task before next =
      subst (λ (r : Recorded). IsNextOfWhole r.events before task.level.now) (sym of.recorded)
      (subst (λ (l : WholeLevel). IsNextOfWhole round.computation.now.events before l) (sym of.level) next)

  -- what stands of predicate i stands of the task
  pub stands_for : (level : WholeLevel) (stage : Stage)
      → ((test : CompiledView) → OneStands (get_or round.tests.now i test) round.width round.gap level stage)
      → StandsAt task level stage
  stands_for level stage stands =
      subst (λ (t : CompiledView). OneStands t task.width task.gap level stage) (sym (of.test task.test.now))
      (subst (λ (w : ℕ). OneStands (get_or round.tests.now i task.test.now) w task.gap level stage) (sym of.width)
      (subst (λ (g : ℕ). OneStands (get_or round.tests.now i task.test.now) round.width g level stage) (sym of.gap)
      (stands task.test.now)))

  -- and the other way round, after the level
  pub stands_of : (stage : Stage) → StandsAt task task.level.now stage → (test : CompiledView)
      → OneStands (get_or round.tests.now i test) round.width round.gap round.level.now stage
  stands_of stage stands test =
      subst (λ (l : WholeLevel). OneStands (get_or round.tests.now i test) round.width round.gap l stage) of.level
      (subst (λ (g : ℕ). OneStands (get_or round.tests.now i test) round.width g task.level.now stage) of.gap
      (subst (λ (w : ℕ). OneStands (get_or round.tests.now i test) w task.gap task.level.now stage) of.width
      (subst (λ (t : CompiledView). OneStands t task.width task.gap task.level.now stage) (of.test test) stands)))

  -- what was seen of predicate i was seen of the task
  pub seen_at : (stage : Stage) (seen : Seen) → IsSeenIn round i stage seen → IsSeenAt task stage seen
  seen_at stage seen is =
      subst (λ (t : CompiledView). IsSeen t task.width task.gap task.level.now stage seen) (sym (of.test task.test.now))
      (subst (λ (w : ℕ). IsSeen (get_or round.tests.now i task.test.now) w task.gap task.level.now stage seen)
      (sym of.width)
      (subst (λ (g : ℕ). IsSeen (get_or round.tests.now i task.test.now) round.width g task.level.now stage seen)
      (sym of.gap)
      (subst (λ (l : WholeLevel). IsSeen (get_or round.tests.now i task.test.now) round.width round.gap l stage seen)
      (sym of.level) (is task.test.now))))

  -- and the other way round
  pub seen_in : (stage : Stage) (seen : Seen) → IsSeenAt task stage seen → IsSeenIn round i stage seen
  seen_in stage seen is test =
      subst (λ (l : WholeLevel). IsSeen (get_or round.tests.now i test) round.width round.gap l stage seen) of.level
      (subst (λ (g : ℕ). IsSeen (get_or round.tests.now i test) round.width g task.level.now stage seen) of.gap
      (subst (λ (w : ℕ). IsSeen (get_or round.tests.now i test) w task.gap task.level.now stage seen) of.width
      (subst (λ (t : CompiledView). IsSeen t task.width task.gap task.level.now stage seen) (of.test test) is)))

  -- below level 0 there is no cut
  pub open_at_first : round.level.now.number ≡ 0
      → IsOpenBelow (task_events task) (task_test task) task.width task.level.now.number
  open_at_first first =
      let number : task.level.now.number ≡ 0 = ap (λ (l : WholeLevel). l.number) of.level ∙ first in
      record {
        none = λ j cut lt level. absurd (omega (arith, number));
        narrow = λ j lt wide. absurd
            (omega (arith, number));
      }
