-- The labels so far.
use Rattle.std.proofs.Common.{◌≡◌, ◌++◌, flat_map, take}
use Rattle.out_picture.specs.Notes.{label_shapes}
use Rattle.out_picture.specs.Shapes.{all_seen}
use Rattle.out_picture.proofs.labels.push_labels.Given as goal

abbrev pub invariant-loop-label : goal.invariant-loop-label
invariant-loop-label l =
    all_seen l.shapes.items ≡ all_seen l.initial.shapes.items ++ flat_map label_shapes (take l.label-index l.labels)
