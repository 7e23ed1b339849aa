-- The least and the greatest counts right before or right after an event.
use Rattle.std.specs.Prelude.{◌≡◌, ℕ, ◌<◌, Bool, true, false, cond, List, length, slice_index, slice_index_or}
use Rattle.def_model.specs.Events.{Computation, Place}
use Rattle.def_model.specs.Lattice.{IsWithin}
use Rattle.def_wide.specs.Tried.{IsEndOf}
use Rattle.wide_gates.specs.Highs.{HasNoneAfter, IsHigh}
use Rattle.wide_gates.specs.Ranges.{IsRange}
use Rattle.wide_gates.specs.Spots.{IsAt}
use Rattle.wide_gates.specs.declared.range.Range.{Range}
use Rattle.wide_gates.specs.declared.spot.Spot.{Spot}

-- how many events of each process come before the first that the event happened before
pub record AreHighs (c : Computation) (e : Place) (highs : List ℕ) : Type 0 where
  pub one_each : length highs ≡ length c
  pub each : (q : ℕ) → q < length c → IsHigh c e q (slice_index highs q)

-- how many at least
pub record AreBelowHighs (c : Computation) (e : Place) (highs : List ℕ) : Type 0 where
  pub one_each : length highs ≡ length c
  pub each : (q : ℕ) → q < length c → HasNoneAfter c e q (slice_index highs q)

-- those of the first q processes are known, and of the others how many at least
pub record HaveHighs (c : Computation) (e : Place) (q : ℕ) (highs : List ℕ) : Type 0 where
  pub one_each : length highs ≡ length c
  pub known : (p : ℕ) → p < q → IsHigh c e p (slice_index highs p)

-- the least or the greatest count of a range
abbrev pub bound_of : Bool → Range → ℕ
bound_of greatest range = cond greatest range.high range.low

-- the least, or the greatest, count that process q may have at the spot
abbrev pub HasBound : Computation → Spot → Bool → ℕ → ℕ → Type 0
HasBound c spot greatest q count = (range : Range) × IsRange c spot q range × (count ≡ bound_of greatest range)

-- each of the first q processes has it
pub record HaveBounds (c : Computation) (spot : Spot) (greatest : Bool) (q : ℕ) (counts : List ℕ) : Type 0 where
  pub many : length counts ≡ q
  pub each : (p : ℕ) → p < q → HasBound c spot greatest p (slice_index counts p)

-- the least, or the greatest, of a set
abbrev pub IsEnd : Bool → (List ℕ → Type 0) → List ℕ → Type 0
IsEnd true InSet counts = InSet counts × ((other : List ℕ) → InSet other → IsWithin other counts)
IsEnd false InSet counts = InSet counts × ((other : List ℕ) → InSet other → IsWithin counts other)

-- at one of the first k spots
abbrev pub IsEndIn : Computation → List Spot → ℕ → List ℕ → Type 0
IsEndIn c spots k cut = (j : ℕ) × (j < k) × ((d : Spot) → IsEndOf (IsAt c (slice_index_or spots j d)) cut)
