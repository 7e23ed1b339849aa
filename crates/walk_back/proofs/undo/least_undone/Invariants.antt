-- What the loop of `least_undone` keeps.
use Rattle.std.proofs.Common.{◌<◌, ◌-◌, ℕ, length}
use Rattle.walk_back.specs.Ways.{LeavesOneOf}
use Rattle.walk_back.proofs.undo.least_undone.Given as goal

abbrev pub invariant-loop-alloc : goal.invariant-loop-alloc
invariant-loop-alloc l = (q : ℕ) → q < l.p → ¬ LeavesOneOf l.level.cuts l.cut q

abbrev pub decreases-loop-alloc : goal.decreases-loop-alloc
decreases-loop-alloc l = length l.cut - l.p
