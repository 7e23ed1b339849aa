-- What the loop of `push_lanes` keeps.
use Rattle.std.proofs.Common.{◌≡◌, ◌++◌}
use Rattle.out_picture.specs.Layout.{upto}
use Rattle.out_picture.specs.Pictures.{lane_shapes, texts_view}
use Rattle.out_picture.specs.Shapes.{all_seen}
use Rattle.out_picture.proofs.lanes.push_lanes.Given as goal

abbrev pub invariant-loop-p : goal.invariant-loop-p
invariant-loop-p l =
    all_seen l.shapes.items ≡ all_seen l.initial.shapes.items ++ upto (lane_shapes l.window (texts_view l.names)) l.p
