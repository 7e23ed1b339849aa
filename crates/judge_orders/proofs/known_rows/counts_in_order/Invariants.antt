-- The events so far stand in an order.
use Rattle.std.proofs.Common.{◌-◌, ◌≤◌, length, sum}
use Rattle.def_model.specs.Cuts.{total}
use Rattle.pd_clock.specs.Orders.{IsOrdered}
use Rattle.read_traces.specs.Views.{computation_view}
use Rattle.judge_orders.proofs.known_rows.counts_in_order.Given as goal

abbrev pub invariant-loop-p : goal.invariant-loop-p
invariant-loop-p l = record {
  last : l.last ≤ length l.traces;
  ordered : IsOrdered (computation_view l.traces) l.done.items;
}

abbrev pub decreases-loop-p : goal.decreases-loop-p
decreases-loop-p l = total (computation_view l.traces) - sum l.done.items
