-- The first satisfying cut among those with some counts of the first process.
use Rattle.std.specs.Prelude.{◌≡◌, ℕ, ◌<◌, ◌⊎◌, Bool, true, false, Option, Some, None, List, slice_index}
use Rattle.wide_conjunctions.specs.CutOrder.{ComesBefore}
use Rattle.def_model.specs.Cuts.{IsConsistent}
use Rattle.def_model.specs.Events.{Computation}

-- the cut is the other, or comes before it
abbrev pub ComesFirst : List ℕ → List ℕ → Type 0
ComesFirst cut other = (cut ≡ other) ⊎ ComesBefore cut other

-- a consistent cut whose pair is good; each other one in which p has fewer than n events comes later
pub record IsFirstBelow (c : Computation) (good : ℕ → ℕ → Bool) (p q n : ℕ) (cut : List ℕ) : Type 0 where
  pub consistent : IsConsistent c cut
  pub is_good : good (slice_index cut p) (slice_index cut q) ≡ true
  pub first : (other : List ℕ) → IsConsistent c other → slice_index other p < n
      → good (slice_index other p) (slice_index other q) ≡ true → ComesFirst cut other

-- the first such cut, or none
abbrev pub IsFirstSoFar : Computation → (ℕ → ℕ → Bool) → ℕ → ℕ → ℕ → Option (List ℕ) → Type 0
IsFirstSoFar c good p q n (Some cut) = IsFirstBelow c good p q n cut
IsFirstSoFar c good p q n None =
    (other : List ℕ) → IsConsistent c other → slice_index other p < n
    → good (slice_index other p) (slice_index other q) ≡ false

-- the first of the consistent cuts whose pair is good and whose count of p is i
pub record IsFirstAt (c : Computation) (good : ℕ → ℕ → Bool) (p q i : ℕ) (cut : List ℕ) : Type 0 where
  pub consistent : IsConsistent c cut
  pub is_good : good (slice_index cut p) (slice_index cut q) ≡ true
  pub first : (other : List ℕ) → IsConsistent c other → slice_index other p ≡ i
      → good (slice_index other p) (slice_index other q) ≡ true → ComesFirst cut other

-- no consistent cut with this count of p has a good pair
abbrev pub HasNoneAt : Computation → (ℕ → ℕ → Bool) → ℕ → ℕ → ℕ → Type 0
HasNoneAt c good p q i =
    (other : List ℕ) → IsConsistent c other → slice_index other p ≡ i
    → good (slice_index other p) (slice_index other q) ≡ false
