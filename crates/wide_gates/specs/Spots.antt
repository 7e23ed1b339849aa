-- Right before or right after an event, and which counts each process may have there.
use Rattle.std.specs.Prelude.{◌≡◌, ◌≢◌, ℕ, ◌-◌, ◌<◌, ◌≤◌, ◌⊎◌, Bool, true, false, cond, Contains, List, length, slice_index_or}
use Rattle.def_model.specs.Events.{Computation, Place, place, IsEvent, event_count}
use Rattle.def_model.specs.Order.{HappenedBefore}
use Rattle.def_wide.specs.Gates.{IsRightAfter, IsRightBefore}
use Rattle.pd_match.specs.Views.{place_view}
use Rattle.pd_match.specs.declared.place.Place as places
use Rattle.wide_gates.specs.declared.spot.Spot.{Spot}

-- the event at a spot
abbrev pub event_of : Spot → Place
event_of spot = place_view spot.place

-- the counts right after an event, or right before it
abbrev pub IsBeside : Bool → Computation → Place → List ℕ → Type 0
IsBeside true c e counts = IsRightAfter c e counts
IsBeside false c e counts = IsRightBefore c e counts

abbrev pub IsAt : Computation → Spot → List ℕ → Type 0
IsAt c spot counts = IsBeside spot.after c (event_of spot) counts

-- how many events of its own process come up to there
abbrev pub own_number : Bool → ℕ → ℕ
own_number after number = cond after number (number - 1)

abbrev pub own_count : Spot → ℕ
own_count spot = own_number spot.after spot.place.number

-- a count of process q that has all that happened before the event, and nothing that it happened before
pub record IsBetween (c : Computation) (e : Place) (q count : ℕ) : Type 0 where
  pub within : count ≤ event_count c q
  pub past : (m : ℕ) → HappenedBefore c (place q m) e → m ≤ count
  pub none_after : (m : ℕ) → 1 ≤ m → m ≤ count → ¬ HappenedBefore c e (place q m)

-- a count that process q may have at the spot
abbrev pub CanHave : Computation → Spot → ℕ → ℕ → Type 0
CanHave c spot q count =
    ((q ≡ spot.place.process) × (count ≡ own_count spot))
    ⊎ ((q ≢ spot.place.process) × IsBetween c (event_of spot) q count)

-- ---- all of them

abbrev pub AreThere : Computation → List Spot → Type 0
AreThere c spots = (k : ℕ) (d : Spot) → k < length spots → IsEvent c (event_of (slice_index_or spots k d))

-- each is at an event, and those of the processes before p are there, and of process p those of the first n events
pub record HaveSpots (c : Computation) (p n : ℕ) (spots : List Spot) : Type 0 where
  pub there : AreThere c spots
  pub all : (place : places.Place) (after : Bool) → IsEvent c (place_view place)
      → (place.process < p) ⊎ ((place.process ≡ p) × (place.number ≤ n))
      → Contains spots (record { place = place; after = after })

-- each is at an event, and each event has both
pub record AreSpots (c : Computation) (spots : List Spot) : Type 0 where
  pub there : AreThere c spots
  pub all : (place : places.Place) (after : Bool) → IsEvent c (place_view place)
      → Contains spots (record { place = place; after = after })
