-- The bounds of the first processes are there.
use Rattle.wide_gates.specs.Ends.{HaveBounds}
use Rattle.wide_gates.proofs.ends.end_at.Given as goal

abbrev pub invariant-loop-q : goal.invariant-loop-q
invariant-loop-q l = HaveBounds l.computation.events l.spot l.greatest l.q l.counts.items
