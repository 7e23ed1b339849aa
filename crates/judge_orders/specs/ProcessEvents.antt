-- What is kept of a process by its initial values and its events alone.
use Rattle.std.specs.Prelude.{◌≡◌, ℕ, List, [], ◌∷◌, ℤ, flat_map, map, pos, slice_index_or}
use Rattle.def_model.specs.Events.{Event, events_of}
use Rattle.def_model.specs.Predicates.{Recorded}
use Rattle.def_orders.specs.Orders.{AreKept, values_after}

-- Process p of what was recorded begins with these values and has these events.
pub record IsProcess (r : Recorded) (p : ℕ) (start : List ℤ) (events : List Event) : Type 0 where
  pub starts : slice_index_or r.initial p [] ≡ start
  pub happen : events_of r.events p ≡ events

-- These are the numbers of the kept events of a process that begins with these values and has these events, and what
-- the variables are worth at the beginning and after each of these.
pub record AreKeptOfProcess (start : List ℤ) (events : List Event) (vars numbers : List ℕ) (values : List ℤ) :
    Type 0 where
  pub kept : (r : Recorded) (p : ℕ) → IsProcess r p start events → AreKept r p vars numbers
  pub values_are : (r : Recorded) (p : ℕ) → IsProcess r p start events
      → values ≡ flat_map (values_after r p vars) (0 ∷ numbers)

-- what the variables are worth if the process's variables have the values of this row; 0 for what isn't there
abbrev pub seen_in : List ℤ → List ℕ → List ℤ
seen_in row vars = map (λ v. slice_index_or row v (pos 0)) vars
