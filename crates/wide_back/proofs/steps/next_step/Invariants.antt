-- What the loop of `next_step` keeps.
use Rattle.wide_back.specs.Goals.{predicate_of, recorded_of}
use Rattle.wide_back.specs.Searches.{AreTried}
use Rattle.wide_back.proofs.steps.next_step.Given as goal

abbrev pub invariant-loop-p : goal.invariant-loop-p
invariant-loop-p l = AreTried (recorded_of l.search) (predicate_of l.search) l.dead l.cut l.p
