-- The parts that are cut off so far.
use Rattle.std.proofs.Common.{length, ◌-◌}
use Rattle.app_ends.proofs.PartPlaces.{AreCut}
use Rattle.app_ends.proofs.seen_parts.parts_of.Given as goal

abbrev pub invariant-lines : goal.invariant-lines
invariant-lines l = AreCut l.bundle l.parts.items l.start l.before l.at l.lines

abbrev pub decreases-lines : goal.decreases-lines
decreases-lines l = length l.bundle - l.at
