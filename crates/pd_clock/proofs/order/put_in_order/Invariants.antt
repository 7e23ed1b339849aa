-- What the loops of `put_in_order` keep.
use Rattle.std.proofs.Common.{◌-◌, ◌≤◌, length, sum}
use Rattle.read_traces.specs.Views.{computation_view}
use Rattle.def_model.specs.Cuts.{total}
use Rattle.pd_clock.specs.Orders.{HasClocks, IsOrdered}
use Rattle.pd_clock.proofs.order.put_in_order.Given as goal

abbrev pub invariant-loop-p : goal.invariant-loop-p
invariant-loop-p l = record {
  last : l.last ≤ length l.traces;
  ordered : IsOrdered (computation_view l.traces) l.order.done.items;
  clocks : HasClocks (computation_view l.traces) l.order.done.items l.order.clocks.items;
}

abbrev pub decreases-loop-p : goal.decreases-loop-p
decreases-loop-p l = total (computation_view l.traces) - sum l.order.done.items
