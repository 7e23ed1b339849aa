-- The spots of the first processes are there.
use Rattle.wide_gates.specs.Spots.{HaveSpots}
use Rattle.wide_gates.proofs.spot.all_spots.Given as goal

abbrev pub invariant-loop-process : goal.invariant-loop-process
invariant-loop-process l = HaveSpots l.computation.events l.process 0 l.spots.items
