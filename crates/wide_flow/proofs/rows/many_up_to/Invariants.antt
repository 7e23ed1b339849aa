-- What the loop of `many_up_to` keeps.
use Rattle.std.proofs.Common.{ℕ, ◌-◌, ◌<◌, ◌≤◌, get_or, length}
use Rattle.wide_flow.specs.Steps.{step_at}
use Rattle.wide_flow.proofs.rows.many_up_to.Given as goal

abbrev pub invariant-loop-many : goal.invariant-loop-many
invariant-loop-many l = record {
  apart : l.many ≤ l.end;
  within : l.end ≤ length l.row;
  up_to : (k : ℕ) → k < l.many → (step_at l.steps (get_or l.row k 0)).count ≤ l.count;
  above : (k : ℕ) → l.end ≤ k → k < length l.row → l.count < (step_at l.steps (get_or l.row k 0)).count;
}

abbrev pub decreases-loop-many : goal.decreases-loop-many
decreases-loop-many l = l.end - l.many
