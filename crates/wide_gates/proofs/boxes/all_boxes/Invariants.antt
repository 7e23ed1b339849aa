-- The spots so far have boxes, and the last one has the last.
use Rattle.std.proofs.Common.{◌-◌, ◌<◌, get_or}
use Rattle.wide_gates.specs.Boxes.{HaveBoxes, IsLastBox}
use Rattle.wide_gates.specs.declared.spot.Spot.{Spot}
use Rattle.wide_gates.proofs.boxes.all_boxes.Given as goal

abbrev pub invariant-loop-k : goal.invariant-loop-k
invariant-loop-k l = record {
  last : 0 < l.k → (d : Spot) → IsLastBox l.computation.events (get_or l.spots (l.k - 1) d) l.boxes.items;
  have : HaveBoxes l.computation.events l.spots l.k l.boxes.items l.numbers.items;
}
