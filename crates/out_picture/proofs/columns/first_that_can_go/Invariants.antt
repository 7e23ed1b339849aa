-- What the loop of `first_that_can_go` keeps.
use Rattle.std.proofs.Common.{ℕ, ◌<◌, ◌≤◌}
use Rattle.pd_clock.specs.Orders.{Waits}
use Rattle.out_picture.proofs.columns.first_that_can_go.Given as goal

abbrev pub invariant-loop-p : goal.invariant-loop-p
invariant-loop-p l = (k : ℕ) → l.start ≤ k → k < l.p → Waits l.computation.events l.done k
