-- What comparisons of one sum mean together.
use Rattle.std.specs.Prelude.{ℕ, List, ℤ, Bool, ◌||◌, int_lt}
use Rattle.walk_tables.specs.Points.{has_point}
use Rattle.walk_tables.specs.Tables.{linear_value}
use Rattle.walk_tables.specs.Zero.{all_joined, turned}
use Rattle.walk_tables.specs.declared.allowed.Allowed.{Allowed}
use Rattle.walk_tables.specs.declared.choice.Choice.{Choice}

-- whether the number is in the set
abbrev pub allows : Allowed → ℤ → Bool
allows allowed value =
    (int_lt value allowed.below || int_lt allowed.above value) || has_point allowed.points.values.items value

abbrev pub choice_holds : Choice → List ℕ → ℕ → ℕ → Bool
choice_holds choice prefix x y = turned choice.is_and (allows choice.allowed (linear_value choice.sum prefix x y))

-- whether the choices hold, or one of them
abbrev pub choices_hold : Bool → List Choice → List ℕ → ℕ → ℕ → Bool
choices_hold is_and choices prefix x y = all_joined is_and (λ (choice : Choice). choice_holds choice prefix x y) choices
