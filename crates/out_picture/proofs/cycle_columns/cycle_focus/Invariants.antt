-- What the loop of `cycle_focus` keeps.
use Rattle.std.proofs.Common.{◌≡◌, drop}
use Rattle.out_picture.specs.Cycles.{cycle_focus, greatest_after}
use Rattle.out_picture.specs.Tables.{places_view}
use Rattle.out_picture.proofs.cycle_columns.cycle_focus.Given as goal

abbrev pub invariant-loop-place : goal.invariant-loop-place
invariant-loop-place l =
    greatest_after l.greatest (places_view (drop l.place-index l.cycle)) ≡ cycle_focus (places_view l.cycle)
