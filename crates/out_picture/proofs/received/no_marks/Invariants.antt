-- What the loop of `no_marks` keeps.
use Rattle.std.proofs.Common.{◌≡◌, ◌<◌, ℕ, false, length, replicate}
use Rattle.def_model.specs.Events.{event_count}
use Rattle.read_traces.specs.Views.{computation_view}
use Rattle.out_picture.specs.Received.{marks_of}
use Rattle.out_picture.proofs.received.no_marks.Given as goal

abbrev pub invariant-loop-p : goal.invariant-loop-p
invariant-loop-p l = record {
  one_each : length l.rows.items ≡ l.p;
  unset : (q : ℕ) → q < l.p
      → marks_of l.rows.items q ≡ replicate (event_count (computation_view l.traces) q) false;
}
