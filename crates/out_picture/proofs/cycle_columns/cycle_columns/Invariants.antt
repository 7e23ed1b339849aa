-- What the loop of `cycle_columns` keeps.
use Rattle.std.proofs.Common.{◌≡◌, ℕ, ◌<◌, length}
use Rattle.def_model.specs.Events.{event_count}
use Rattle.read_traces.specs.Views.{computation_view}
use Rattle.out_picture.specs.Cycles.{cycle_row, shift}
use Rattle.out_picture.specs.Tables.{places_view, row_of}
use Rattle.out_picture.proofs.cycle_columns.cycle_columns.Given as goal

abbrev pub invariant-loop-p : goal.invariant-loop-p
invariant-loop-p l = record {
  one_each : length l.rows.items ≡ l.p;
  rows_are : (q : ℕ) → q < l.p
      → row_of l.rows.items q ≡ cycle_row (shift (places_view l.cycle) q) (event_count (computation_view l.traces) q);
}
