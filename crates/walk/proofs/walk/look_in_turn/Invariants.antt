-- What the loop of `look_in_turn` keeps.
use Rattle.walk.proofs.Standing.{HaveLooked}
use Rattle.walk.proofs.walk.look_in_turn.Given as goal

abbrev pub invariant-loop-i : goal.invariant-loop-i
invariant-loop-i g l =
    HaveLooked l.round.tests.now l.round.width l.round.gap l.before l.round.level.now l.i l.stages.items
