-- The sums of the processes so far.
use Rattle.wide_gates.specs.Greatest.{AreBoxSums}
use Rattle.wide_gates.proofs.greatest.box_sums.Given as goal

abbrev pub invariant-loop-q : goal.invariant-loop-q
invariant-loop-q l = AreBoxSums l.boxes l.values l.q l.sums.items
