-- The way up to the least good cut.
use Rattle.std.specs.Prelude.{◌≡◌, ℕ, ◌<◌, ◌≤◌, Bool, true, false, List, length, max, slice_index}
use Rattle.def_model.specs.Events.{Computation, Place}
use Rattle.def_model.specs.Order.{IsClock}
use Rattle.def_model.specs.Cuts.{IsConsistent}
use Rattle.def_model.specs.Lattice.{IsWithin}
use Rattle.wide_conjunctions.specs.LeastCuts.{IsGood}

-- a consistent cut within each good one
pub record IsBelowGood (c : Computation) (good : ℕ → ℕ → Bool) (counts : List ℕ) : Type 0 where
  pub consistent : IsConsistent c counts
  pub below : (other : List ℕ) → IsConsistent c other → IsGood good other → IsWithin counts other

-- the least good count from this one on
abbrev pub IsNextGood : (ℕ → Bool) → ℕ → ℕ → Type 0
IsNextGood good from next =
    (from ≤ next) × (good next ≡ true) × ((m : ℕ) → from ≤ m → m < next → good m ≡ false)

-- no count from this one on, up to the last, is good
abbrev pub HasNoNext : (ℕ → Bool) → ℕ → ℕ → Type 0
HasNoNext good from last = (m : ℕ) → from ≤ m → m ≤ last → good m ≡ false

-- the counts that also have this event and all that happened before it
pub record IsRaised (c : Computation) (e : Place) (old new : List ℕ) : Type 0 where
  pub same : length new ≡ length old
  pub raised : (q : ℕ) → q < length old
      → (n : ℕ) × IsClock c e q n × (slice_index new q ≡ max (slice_index old q) n)
