-- The spots of the first events of the process are there.
use Rattle.wide_gates.specs.Spots.{HaveSpots}
use Rattle.wide_gates.proofs.spot.add_spots.Given as goal

abbrev pub invariant-loop-index : goal.invariant-loop-index
invariant-loop-index l = HaveSpots l.computation.events l.process l.index l.spots.items
