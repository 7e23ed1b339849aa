-- The turns of the first predicates have ended.
use Rattle.walk.proofs.Turning.{HaveTakenTurns}
use Rattle.walk.proofs.turns.end_all.Given as goal

abbrev pub invariant-loop-i : goal.invariant-loop-i
invariant-loop-i g l = HaveTakenTurns l.round l.before l.i l.drawn l.stages.items
