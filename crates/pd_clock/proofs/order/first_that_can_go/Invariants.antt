-- What the loops of `first_that_can_go` keep.
use Rattle.std.proofs.Common.{ℕ, ◌<◌, ◌≤◌}
use Rattle.read_traces.specs.Views.{computation_view}
use Rattle.pd_clock.specs.Orders.{Waits}
use Rattle.pd_clock.proofs.order.first_that_can_go.Given as goal

abbrev pub invariant-loop-p : goal.invariant-loop-p
invariant-loop-p l = (k : ℕ) → l.start ≤ k → k < l.p → Waits (computation_view l.traces) l.done k
