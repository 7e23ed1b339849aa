-- What the loop of `push_points` keeps.
use Rattle.std.proofs.Common.{◌≡◌, ◌++◌, take}
use Rattle.std.specs.Prelude.{flat_map}
use Rattle.out_svg.specs.Svg.{point_text}
use Rattle.out_svg.proofs.shape_text.push_points.Given as goal

abbrev pub invariant-loop-point : goal.invariant-loop-point
invariant-loop-point l = l.out.items ≡ l.initial.out.items ++ flat_map point_text (take l.point-index l.points)
