-- What the loop of `count_below` keeps.
use Rattle.std.proofs.Common.{◌≤◌, ◌-◌, length}
use Rattle.walk_back.proofs.dead.count_below.Given as goal

abbrev pub invariant-loop-low : goal.invariant-loop-low
invariant-loop-low g l = record { order : l.low ≤ l.high; within : l.high ≤ length l.keys }

abbrev pub decreases-loop-low : goal.decreases-loop-low
decreases-loop-low g l = l.high - l.low
