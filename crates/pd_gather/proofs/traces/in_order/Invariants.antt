-- What the loops of `in_order` keep.
use Rattle.std.proofs.Common.{◌≡◌, ℕ, ◌≤◌, length, drop, All}
use Rattle.std.specs.Prelude.{Some, slice_get}
use Rattle.def_format.specs.ReadingLaws.{FitsWithin}
use Rattle.def_format.specs.Sessions.{trace_of, traces_from}
use Rattle.read_traces.specs.Views.{trace_view}
use Rattle.read_traces.specs.declared.event.Trace.{Trace}
use Rattle.pd_gather.specs.Views.{ReadingFitsWithin, results_view, traces_view}
use Rattle.pd_gather.proofs.Places.{following}
use Rattle.pd_gather.proofs.traces.in_order.Given as goal

abbrev pub invariant-loop-p : goal.invariant-loop-p
invariant-loop-p l = record {
  count : length l.traces.items ≡ l.p;
  so_far : traces_from 0 l.names (results_view l.fn.readings.items)
      ≡ following (traces_view l.traces.items) (traces_from l.p (drop l.p l.names) (results_view l.fn.readings.items));
  same : (q : ℕ) → l.p ≤ q → trace_of q (results_view l.readings.items) ≡ trace_of q (results_view l.fn.readings.items);
  left : (limit : ℕ) → All (ReadingFitsWithin limit l.names) l.fn.readings.items
      → All (ReadingFitsWithin limit l.names) l.readings.items;
  process : (k : ℕ) (trace : Trace) → slice_get l.traces.items k ≡ Some trace → trace.process ≡ k;
  fit : (limit : ℕ) → All (ReadingFitsWithin limit l.names) l.fn.readings.items
      → (k : ℕ) (trace : Trace) → slice_get l.traces.items k ≡ Some trace → FitsWithin limit l.names (trace_view trace);
}
