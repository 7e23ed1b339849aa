-- The counts that the processes may have around events: a range of each other process.
use Rattle.std.specs.Prelude.{◌≡◌, ℕ, ◌-◌, ◌<◌, ◌≤◌, List, length, slice_index_or, Vec}
use Rattle.std.specs.Global.{Global}
use Rattle.def_model.specs.Events.{Computation, event_count}
use Rattle.wide_gates.specs.Ranges.{HasRange}
use Rattle.wide_gates.specs.declared.range.Range.{Range}
use Rattle.wide_gates.specs.declared.spot.Spot.{Spot}

-- the box of a spot
pub record HasBox (c : Computation) (spot : Spot) (ranges : List Range) : Type 0 where
  pub one_each : length ranges ≡ length c
  pub each : (q : ℕ) (d : Range) → q < length c → HasRange c spot q (slice_index_or ranges q d)

-- the last of some boxes is that of the spot
pub record IsLastBox (c : Computation) (spot : Spot) (boxes : List (Vec Range Global)) : Type 0 where
  pub some : 0 < length boxes
  pub last : (b : Vec Range Global) → HasBox c spot (slice_index_or boxes (length boxes - 1) b).items

-- a range of each process, within its events
pub record IsBox (c : Computation) (ranges : List Range) : Type 0 where
  pub one_each : length ranges ≡ length c
  pub ordered : (q : ℕ) (d : Range) → q < length c
      → (slice_index_or ranges q d).low ≤ (slice_index_or ranges q d).high
  pub within : (q : ℕ) (d : Range) → q < length c → (slice_index_or ranges q d).high ≤ event_count c q

abbrev pub AreBoxes : Computation → List (Vec Range Global) → Type 0
AreBoxes c boxes = (i : ℕ) (b : Vec Range Global) → i < length boxes → IsBox c (slice_index_or boxes i b).items

-- none is lost
pub record IsMoreBoxes (c : Computation) (old new : List (Vec Range Global)) : Type 0 where
  pub no_fewer : length old ≤ length new
  pub same : (i : ℕ) (b : Vec Range Global) → i < length old → slice_index_or new i b ≡ slice_index_or old i b
  pub sound : AreBoxes c old → AreBoxes c new

-- each of the first n spots has the box with its number
pub record HaveBoxes (c : Computation) (spots : List Spot) (n : ℕ) (boxes : List (Vec Range Global)) (numbers : List ℕ)
    : Type 0 where
  pub sound : AreBoxes c boxes
  pub one_each : length numbers ≡ n
  pub there : (k : ℕ) → k < n → slice_index_or numbers k 0 < length boxes
  pub each : (k : ℕ) (d : Spot) (b : Vec Range Global) → k < n
      → HasBox c (slice_index_or spots k d) (slice_index_or boxes (slice_index_or numbers k 0) b).items
