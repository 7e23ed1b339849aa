-- What the loops of `more_by` keep.
use Rattle.pd_level.specs.MoreCuts.{piece}
use Rattle.pd_level.proofs.Steps.{IsMoreSo}
use Rattle.pd_level.proofs.step.more_by.Given as goal

abbrev pub invariant-loop-i : goal.invariant-loop-i
invariant-loop-i g l = IsMoreSo l.computation.events (piece l.keys l.start l.end) l.p l.i l.more
