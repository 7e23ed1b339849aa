-- What the loop of `full_counts` keeps.
use Rattle.std.proofs.Common.{◌≡◌, ℕ, ◌<◌, get_or, length}
use Rattle.def_model.specs.Events.{event_count}
use Rattle.wide_reach.proofs.lowest.full_counts.Given as goal

abbrev pub invariant-loop-p : goal.invariant-loop-p
invariant-loop-p l = record {
  one_each : length l.full.items ≡ l.p;
  each : (q : ℕ) → q < l.p → get_or l.full.items q 0 ≡ event_count l.computation.events q;
}
