-- What the loops of `needs_of_all` keep.
use Rattle.walk_runs.specs.Needs.{AreNeeds}
use Rattle.walk_runs.proofs.steps.needs_of_all.Given as goal

abbrev pub invariant-loop-p : goal.invariant-loop-p
invariant-loop-p l = AreNeeds l.computation.events l.p l.rows.items
