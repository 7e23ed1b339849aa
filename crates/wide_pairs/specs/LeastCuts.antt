-- The least consistent cuts in which processes have some events at least. Source: Garg and Waldecker, Detection of Weak
-- Unstable Predicates in Distributed Programs, 1994.
use Rattle.std.specs.Prelude.{◌≡◌, ℕ, ◌+◌, ◌≤◌, List, length, max, slice_index}
use Rattle.def_model.specs.Events.{Computation, event_count}
use Rattle.def_model.specs.Cuts.{IsConsistent}
use Rattle.def_model.specs.Lattice.{IsWithin}

-- the least consistent cut that the old one is within and in which process p has i events at least
pub record IsTakenIn (c : Computation) (p i : ℕ) (old new : List ℕ) : Type 0 where
  pub consistent : IsConsistent c new
  pub same : length new ≡ length old
  pub above : IsWithin old new
  pub here : slice_index new p ≡ max (slice_index old p) i
  pub least : (other : List ℕ) → IsConsistent c other → IsWithin old other → i ≤ slice_index other p
      → IsWithin new other

-- the least consistent cut in which process p has i events at least: it has just these of p
pub record IsLeastWith (c : Computation) (p i : ℕ) (cut : List ℕ) : Type 0 where
  pub consistent : IsConsistent c cut
  pub here : slice_index cut p ≡ i
  pub least : (other : List ℕ) → IsConsistent c other → i ≤ slice_index other p → IsWithin cut other

-- n events of process q are in that cut: they are among the i of p or happened before them
abbrev pub IsPast : Computation → ℕ → ℕ → ℕ → ℕ → Type 0
IsPast c p i q n = (cut : List ℕ) × IsLeastWith c p i cut × (slice_index cut q ≡ n)

-- the same of each count of process p, from 0
pub record ArePasts (c : Computation) (p q : ℕ) (pasts : List ℕ) : Type 0 where
  pub one_each : length pasts ≡ event_count c p + 1
  pub each : (i : ℕ) → i ≤ event_count c p → IsPast c p i q (slice_index pasts i)

-- the least consistent cut in which p and q have i and j events at least
pub record IsLeastWithBoth (c : Computation) (p q i j : ℕ) (cut : List ℕ) : Type 0 where
  pub consistent : IsConsistent c cut
  pub first : i ≤ slice_index cut p
  pub second : j ≤ slice_index cut q
  pub least : (other : List ℕ) → IsConsistent c other → i ≤ slice_index other p → j ≤ slice_index other q
      → IsWithin cut other
