-- What the loop of `level_after` keeps.
use Rattle.wide_conjunctions.proofs.LevelAfter.{IsLevelOfFirst}
use Rattle.wide_conjunctions.proofs.box_level.level_after.Given as goal

abbrev pub invariant-loop-p : goal.invariant-loop-p
invariant-loop-p l = IsLevelOfFirst l.computation.events l.counts l.p l.level
