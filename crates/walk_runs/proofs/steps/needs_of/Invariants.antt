-- What the loops of `needs_of` keep.
use Rattle.walk_runs.specs.Needs.{HasNeeds}
use Rattle.walk_runs.proofs.steps.needs_of.Given as goal

abbrev pub invariant-loop-n : goal.invariant-loop-n
invariant-loop-n l = HasNeeds l.computation.events l.p l.n l.row.items
