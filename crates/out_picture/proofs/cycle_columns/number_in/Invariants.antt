-- What the loop of `number_in` keeps.
use Rattle.std.proofs.Common.{◌≡◌, drop}
use Rattle.out_picture.specs.Cycles.{number_in}
use Rattle.out_picture.specs.Tables.{places_view}
use Rattle.out_picture.proofs.cycle_columns.number_in.Given as goal

abbrev pub invariant-loop-place : goal.invariant-loop-place
invariant-loop-place l =
    number_in l.otherwise (places_view (drop l.place-index l.cycle)) l.process
    ≡ number_in l.otherwise (places_view l.cycle) l.process
