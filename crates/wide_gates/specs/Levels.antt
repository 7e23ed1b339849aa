-- How many events counts have at spots.
use Rattle.std.specs.Prelude.{◌≡◌, ℕ, ◌*◌, ◌<◌, ◌≤◌, ◌≤ℤ◌, List, length, ℤ, pos, slice_index, slice_index_or, unsigned_abs, Vec}
use Rattle.std.specs.Global.{Global}
use Rattle.def_format.specs.Limits.{event_limit, process_limit}
use Rattle.def_model.specs.Events.{Computation, event_count}
use Rattle.def_wide.specs.Gates.{IsMostOf}
use Rattle.wide_slice.specs.Values.{number_at, value_limit, value_of}
use Rattle.wide_gates.specs.Spots.{IsAt}
use Rattle.wide_gates.specs.declared.spot.Spot.{Spot}

-- each count stands at its own place
pub record IsCountRow (events : ℕ) (row : List ℤ) : Type 0 where
  pub is : (count : ℕ) → count ≤ events → number_at row count ≡ pos count
  pub small : (count : ℕ) → unsigned_abs (number_at row count) ≤ value_limit

abbrev pub AreCounts : Computation → List (Vec ℤ Global) → Type 0
AreCounts c rows = (p count : ℕ) → count ≤ event_count c p → value_of rows p count ≡ pos count

-- the greatest number of events of each spot
pub record AreLevels (c : Computation) (spots : List Spot) (levels : List ℕ) : Type 0 where
  pub one_each : length levels ≡ length spots
  pub each : (k : ℕ) (d : Spot) → k < length spots → IsMostOf (IsAt c (slice_index_or spots k d)) (slice_index levels k)

-- none is below 0, or more than there may be events
abbrev pub AreLevelNumbers : List ℤ → Type 0
AreLevelNumbers numbers =
    (k : ℕ) → k < length numbers
    → (pos 0 ≤ℤ slice_index_or numbers k (pos 0))
    × (slice_index_or numbers k (pos 0) ≤ℤ pos (event_limit * process_limit))

pub record AreSame (numbers : List ℤ) (naturals : List ℕ) : Type 0 where
  pub one_each : length naturals ≡ length numbers
  pub each : (k : ℕ) → k < length numbers → pos (slice_index naturals k) ≡ slice_index_or numbers k (pos 0)
