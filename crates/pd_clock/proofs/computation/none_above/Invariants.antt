-- What the loops of `none_above` keep.
use Rattle.std.proofs.Common.{ℕ, ◌<◌, ◌≤◌, get_or}
use Rattle.def_model.specs.Events.{event_count}
use Rattle.read_traces.specs.Views.{computation_view}
use Rattle.pd_clock.proofs.computation.none_above.Given as goal

abbrev pub invariant-loop-i : goal.invariant-loop-i
invariant-loop-i l = (k : ℕ) → k < l.i → get_or l.counts k 0 ≤ event_count (computation_view l.traces) k
