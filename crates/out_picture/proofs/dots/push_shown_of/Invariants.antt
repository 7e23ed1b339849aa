-- What the loop of `push_shown_of` keeps.
use Rattle.std.proofs.Common.{◌≡◌, ◌++◌}
use Rattle.out_picture.specs.Pictures.{shown_of}
use Rattle.out_picture.specs.Tables.{column_at, places_view}
use Rattle.out_picture.proofs.dots.push_shown_of.Given as goal

abbrev pub invariant-loop-n : goal.invariant-loop-n
invariant-loop-n l = places_view l.places.items
    ≡ places_view l.initial.places.items ++ shown_of l.window (column_at l.rows) l.process l.n
