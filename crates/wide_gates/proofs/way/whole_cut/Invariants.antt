-- The counts of the first processes are there.
use Rattle.std.proofs.Common.{◌≡◌, ◌<◌, ℕ, get_or, length}
use Rattle.def_model.specs.Events.{event_count}
use Rattle.wide_gates.proofs.way.whole_cut.Given as goal

abbrev pub invariant-loop-p : goal.invariant-loop-p
invariant-loop-p l = record {
  many : length l.counts.items ≡ l.p;
  each : (q : ℕ) → q < l.p → get_or l.counts.items q 0 ≡ event_count l.computation.events q;
}
