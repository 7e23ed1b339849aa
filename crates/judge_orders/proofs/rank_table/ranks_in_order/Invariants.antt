-- The events so far stand in an order, and have their rows.
use Rattle.std.proofs.Common.{◌≡◌, ◌-◌, ◌≤◌, length, sum}
use Rattle.def_model.specs.Cuts.{total}
use Rattle.judge_orders.specs.Lists.{lists_view}
use Rattle.judge_orders.specs.RankTables.{HasRanks}
use Rattle.pd_clock.specs.Orders.{IsOrdered}
use Rattle.read_traces.specs.Views.{computation_view}
use Rattle.judge_orders.proofs.rank_table.ranks_in_order.Given as goal

abbrev pub invariant-loop-p : goal.invariant-loop-p
invariant-loop-p l = record {
  last : l.last ≤ length l.traces;
  room : length l.row.items ≡ length l.numbers;
  ordered : IsOrdered (computation_view l.traces) l.table.done.items;
  ranks : HasRanks (computation_view l.traces) (lists_view l.numbers) l.table.done.items l.table.rows.items;
}

abbrev pub decreases-loop-p : goal.decreases-loop-p
decreases-loop-p l = total (computation_view l.traces) - sum l.table.done.items
