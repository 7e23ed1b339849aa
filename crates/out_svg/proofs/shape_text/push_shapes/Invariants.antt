-- What the loop of `push_shapes` keeps.
use Rattle.std.proofs.Common.{◌≡◌, ◌++◌, take}
use Rattle.std.specs.Prelude.{flat_map}
use Rattle.out_svg.specs.Svg.{shape_text}
use Rattle.out_svg.proofs.shape_text.push_shapes.Given as goal

abbrev pub invariant-loop-shape : goal.invariant-loop-shape
invariant-loop-shape l = l.out.items ≡ l.initial.out.items ++ flat_map shape_text (take l.shape-index l.shapes)
