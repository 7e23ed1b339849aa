-- What processes add to the difference of two sums.
use Rattle.std.specs.Prelude.{◌≡◌, ℕ, List, ℤ, ◌-ℤ◌, Vec}
use Rattle.std.specs.Global.{Global}
use Rattle.def_model.specs.Cuts.{FitsProcesses}
use Rattle.def_model.specs.Predicates.{Sign, Term, Recorded, state_at, sum_value}
use Rattle.wide_slice.specs.Values.{sum_at}

-- at each cut the values add up to the left sum less the right one
abbrev pub IsDifference : Recorded → List (Sign × Term) → List (Sign × Term) → List (Vec ℤ Global) → Type 0
IsDifference r left right values =
    (cut : List ℕ) → FitsProcesses r.events cut
    → sum_at values cut
    ≡ sum_value (state_at r.initial r.events cut) left -ℤ sum_value (state_at r.initial r.events cut) right
