-- What the loops of `histories` keep.
use Rattle.std.proofs.Common.{◌≡◌, ℕ, ◌<◌, ◌++◌, length}
use Rattle.def_model.specs.Events.{events_of}
use Rattle.read_traces.specs.Views.{computation_view}
use Rattle.pd_clock.specs.Histories.{rows_after}
use Rattle.pd_clock.specs.States.{history_at, values_at}
use Rattle.pd_clock.proofs.computation.histories.Given as goal

abbrev pub invariant-loop-p : goal.invariant-loop-p
invariant-loop-p l = record {
  count : length l.histories.items ≡ l.p;
  rows : (k : ℕ) → k < l.p → history_at l.histories.items k ≡ values_at l.initial' k
      ++ rows_after (values_at l.initial' k) (events_of (computation_view l.traces) k);
}
