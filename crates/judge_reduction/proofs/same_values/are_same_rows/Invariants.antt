-- The rows so far are those at the places so far.
use Rattle.std.proofs.Common.{◌≡◌, [], map, take}
use Rattle.def_orders.specs.Selections.{at_places}
use Rattle.judge_reduction.proofs.same_values.are_same_rows.Given as goal

abbrev pub invariant-loop-i : goal.invariant-loop-i
invariant-loop-i l =
    map (λ row. row.items) (take l.i l.first)
    ≡ at_places (take l.i l.places) (map (λ row. row.items) l.second) []
