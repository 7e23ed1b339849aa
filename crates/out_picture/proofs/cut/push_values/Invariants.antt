-- What the loop of `push_values` keeps.
use Rattle.std.proofs.Common.{◌≡◌, ◌++◌}
use Rattle.out_picture.specs.Layout.{upto}
use Rattle.out_picture.specs.Pictures.{texts_view, value_shapes}
use Rattle.out_picture.specs.Shapes.{all_seen}
use Rattle.out_picture.proofs.cut.push_values.Given as goal

abbrev pub invariant-loop-p : goal.invariant-loop-p
invariant-loop-p l = all_seen l.shapes.items ≡ all_seen l.initial.shapes.items
    ++ upto (value_shapes l.window (texts_view l.values)) l.p
