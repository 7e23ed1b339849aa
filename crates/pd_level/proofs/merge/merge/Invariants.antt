-- What the loops of `merge` keep.
use Rattle.std.proofs.Common.{length, ◌-◌, ◌+◌}
use Rattle.pd_level.proofs.Merges.{IsMerged}
use Rattle.pd_level.proofs.merge.merge.Given as goal

abbrev pub invariant-loop-i : goal.invariant-loop-i
invariant-loop-i g l = IsMerged l.left l.i l.right l.j l.both

abbrev pub decreases-loop-i : goal.decreases-loop-i
decreases-loop-i g l = (length l.left - l.i) + (length l.right - l.j)
