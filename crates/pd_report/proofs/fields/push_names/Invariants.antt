-- What the loops of `push_names` keep.
use Rattle.std.proofs.Common.{◌≡◌, ◌∷◌, ◌++◌, take}
use Rattle.std.specs.List.{flat_map}
use Rattle.pd_report.specs.Steps.{name_at, names_view}
use Rattle.pd_report.proofs.fields.push_names.Given as goal

abbrev pub invariant-loop-step : goal.invariant-loop-step
invariant-loop-step l =
    l.out.items
    ≡ l.initial.out.items ++ flat_map (λ step. 44 ∷ name_at (names_view l.names) step) (take l.step-index l.others)
