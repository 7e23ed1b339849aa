-- Whether events set a variable.
use Rattle.std.specs.Prelude.{ℕ, ℤ, Bool, nat_eq, List}
use Rattle.std.specs.List.{list_any}
use Rattle.def_model.specs.Events.{Event}

abbrev pub is_set_in : (var : ℕ) → List (ℕ × ℤ) → Bool
is_set_in var sets = list_any (λ (set : ℕ × ℤ). nat_eq set.0 var) sets

-- one of the events sets the variable
abbrev pub is_set : (var : ℕ) → List Event → Bool
is_set var events = list_any (λ (event : Event). is_set_in var event.sets) events
