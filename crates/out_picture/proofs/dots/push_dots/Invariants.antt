-- What the loop of `push_dots` keeps.
use Rattle.std.proofs.Common.{◌≡◌, ◌++◌, take, flat_map}
use Rattle.out_picture.specs.Pictures.{event_shapes}
use Rattle.out_picture.specs.Shapes.{all_seen}
use Rattle.out_picture.specs.Tables.{column_at, places_view}
use Rattle.out_picture.proofs.dots.push_dots.Given as goal

abbrev pub invariant-loop-place : goal.invariant-loop-place
invariant-loop-place l = all_seen l.shapes.items ≡ all_seen l.initial.shapes.items
    ++ flat_map (event_shapes l.window (column_at l.rows) l.evidence) (places_view (take l.place-index l.places))
