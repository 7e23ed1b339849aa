-- What the loops of `keep_marked` keep.
use Rattle.pd_level.proofs.Kept.{IsKeptSo}
use Rattle.pd_level.proofs.keep.keep_marked.Given as goal

abbrev pub invariant-loop-i : goal.invariant-loop-i
invariant-loop-i g l = IsKeptSo l.wanted l.marks l.fn.keys l.keys l.i l.kept
