-- What the loop of `columns` keeps.
use Rattle.std.proofs.Common.{◌-◌, ◌≤◌, length, sum}
use Rattle.def_model.specs.Cuts.{total}
use Rattle.pd_clock.specs.Orders.{IsOrdered}
use Rattle.out_picture.specs.Tables.{HasColumns}
use Rattle.out_picture.proofs.columns.columns.Given as goal

abbrev pub invariant-loop-p : goal.invariant-loop-p
invariant-loop-p l = record {
  last : l.last ≤ length l.computation.events;
  ordered : IsOrdered l.computation.events l.table.done.items;
  columns : HasColumns l.computation.events l.table.done.items l.table.rows.items;
}

abbrev pub decreases-loop-p : goal.decreases-loop-p
decreases-loop-p l = total l.computation.events - sum l.table.done.items
