-- No event of the processes so far adds more than 1.
use Rattle.std.proofs.Common.{ℕ, ◌<◌}
use Rattle.wide_sums.specs.SmallSteps.{RowRises}
use Rattle.wide_sums.proofs.steps.rises_by_one.Given as goal

abbrev pub invariant-loop-p : goal.invariant-loop-p
invariant-loop-p l = (q : ℕ) → q < l.p → RowRises l.computation.events l.values q
