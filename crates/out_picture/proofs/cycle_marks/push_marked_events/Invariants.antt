-- What the loop of `push_marked_events` keeps.
use Rattle.std.proofs.Common.{◌≡◌, ◌++◌, take}
use Rattle.out_picture.specs.Cycles.{marked_events}
use Rattle.out_picture.specs.Shapes.{all_seen}
use Rattle.out_picture.specs.Tables.{column_at, places_view}
use Rattle.out_picture.proofs.cycle_marks.push_marked_events.Given as goal

abbrev pub invariant-loop-place : goal.invariant-loop-place
invariant-loop-place l = all_seen l.shapes.items ≡ all_seen l.initial.shapes.items
    ++ marked_events l.window (column_at l.rows) (places_view (take l.place-index l.cycle))
