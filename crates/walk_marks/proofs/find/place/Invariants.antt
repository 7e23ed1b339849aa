-- What the doubled steps keep: the runs before the place reached are below.
use Rattle.std.proofs.Common.{◌-◌, ◌<◌, ◌≤◌, ℕ, length}
use Rattle.walk_marks.specs.RunPlaces.{key_of_run, run_at}
use Rattle.walk_marks.proofs.find.place.Given as goal

abbrev pub invariant-loop-low : goal.invariant-loop-low
invariant-loop-low g l = record {
  after : l.hint < l.low;
  within : l.low ≤ length l.level.runs;
  below : (i : ℕ) → i < l.low → key_of_run (run_at l.level.runs i) < g.K.Key.number l.key;
}

abbrev pub decreases-loop-low : goal.decreases-loop-low
decreases-loop-low g l = l.count - l.low
