-- Between which counts all lie that a process may have at a spot.
use Rattle.std.specs.Prelude.{◌≡◌, ◌≢◌, ◌↔◌, ℕ, ◌≤◌, List, slice_index_or}
use Rattle.def_model.specs.Events.{Computation, event_count}
use Rattle.wide_gates.specs.Spots.{CanHave}
use Rattle.wide_gates.specs.declared.range.Range.{Range}
use Rattle.wide_gates.specs.declared.spot.Spot.{Spot}

pub record IsRange (c : Computation) (spot : Spot) (q : ℕ) (range : Range) : Type 0 where
  pub ordered : range.low ≤ range.high
  pub within : range.high ≤ event_count c q
  pub each : (count : ℕ) → ((range.low ≤ count) × (count ≤ range.high)) ↔ CanHave c spot q count

-- of the event's own process it is 0 alone
pub record HasRange (c : Computation) (spot : Spot) (q : ℕ) (range : Range) : Type 0 where
  pub own_low : q ≡ spot.place.process → range.low ≡ 0
  pub own_high : q ≡ spot.place.process → range.high ≡ 0
  pub other : q ≢ spot.place.process → IsRange c spot q range

-- the count of process q is in its range
abbrev pub InRanges : List Range → ℕ → ℕ → Type 0
InRanges ranges q count =
    (d : Range) → ((slice_index_or ranges q d).low ≤ count) × (count ≤ (slice_index_or ranges q d).high)
