-- What the search keeps: the place lies between the two ends.
use Rattle.std.proofs.Common.{◌-◌, ◌<◌, ◌≤◌, ℕ, length}
use Rattle.walk_marks.specs.RunPlaces.{key_of_run, run_at}
use Rattle.walk_marks.proofs.find.search.Given as goal

abbrev pub invariant-loop-low : goal.invariant-loop-low
invariant-loop-low g l = record {
  order : l.low ≤ l.high;
  within : l.high ≤ length l.level.runs;
  below : (i : ℕ) → i < l.low → key_of_run (run_at l.level.runs i) < g.K.Key.number l.key;
  beyond : (i : ℕ) → l.high ≤ i → i < length l.level.runs → g.K.Key.number l.key ≤ key_of_run (run_at l.level.runs i);
}

abbrev pub decreases-loop-low : goal.decreases-loop-low
decreases-loop-low g l = l.high - l.low
