-- What the loop of `place` keeps.
use Rattle.std.proofs.Common.{◌≤◌, length}
use Rattle.walk_runs.proofs.births.place.Given as goal

abbrev pub invariant-loop-cut : goal.invariant-loop-cut
invariant-loop-cut g l = l.at ≤ length l.few

abbrev pub decreases-loop-cut : goal.decreases-loop-cut
decreases-loop-cut g l = l.at
