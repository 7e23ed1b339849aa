-- The greatest consistent cut in which two processes have some events at most.
use Rattle.std.specs.Prelude.{ℕ, ◌+◌, ◌≡◌, ◌<◌, ◌≤◌, ◌↔◌, List, length, slice_index}
use Rattle.def_model.specs.Cuts.{IsConsistent}
use Rattle.def_model.specs.Events.{Computation, Place, event_count, place}
use Rattle.def_model.specs.Lattice.{IsWithin}
use Rattle.def_model.specs.Order.{IsUpTo}

-- of p and of q at most i and j events are this one or happened before it: the next one of neither is or did
abbrev pub IsEarly : Computation → ℕ → ℕ → ℕ → ℕ → Place → Type 0
IsEarly c p q i j e = (¬ IsUpTo c (place p (i + 1)) e) × (¬ IsUpTo c (place q (j + 1)) e)

-- those of process r are its first ones, this many
pub record IsMostCount (c : Computation) (p q i j r count : ℕ) : Type 0 where
  pub within : count ≤ event_count c r
  pub early : (n : ℕ) → 1 ≤ n → n ≤ event_count c r → (n ≤ count) ↔ IsEarly c p q i j (place r n)

-- the same of each process
pub record AreMosts (c : Computation) (p q i j : ℕ) (counts : List ℕ) : Type 0 where
  pub one_each : length counts ≡ length c
  pub each : (r : ℕ) → r < length c → IsMostCount c p q i j r (slice_index counts r)

-- the greatest consistent cut in which p has i events at most and q has j
pub record IsMostWithin (c : Computation) (p q i j : ℕ) (cut : List ℕ) : Type 0 where
  pub consistent : IsConsistent c cut
  pub first : slice_index cut p ≤ i
  pub second : slice_index cut q ≤ j
  pub most : (other : List ℕ) → IsConsistent c other → slice_index other p ≤ i → slice_index other q ≤ j
      → IsWithin other cut
