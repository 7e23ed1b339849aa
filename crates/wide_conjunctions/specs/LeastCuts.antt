-- The least consistent cut at which each count is good. Source: Garg and Waldecker, Detection of Weak Unstable
-- Predicates in Distributed Programs, 1994. `good p n` says whether count n of process p, from 0, is good.
use Rattle.std.specs.Prelude.{◌≡◌, ℕ, ◌<◌, Bool, true, List, length, slice_index}
use Rattle.def_model.specs.Events.{Computation}
use Rattle.def_model.specs.Cuts.{IsConsistent}
use Rattle.def_model.specs.Lattice.{IsWithin}

-- each process is at a good count
abbrev pub IsGood : (ℕ → ℕ → Bool) → List ℕ → Type 0
IsGood good cut = (p : ℕ) → p < length cut → good p (slice_index cut p) ≡ true

-- the least consistent cut at which each process is at a good count: it is within each other one
pub record IsLeastGood (c : Computation) (good : ℕ → ℕ → Bool) (cut : List ℕ) : Type 0 where
  pub consistent : IsConsistent c cut
  pub good_there : IsGood good cut
  pub least : (other : List ℕ) → IsConsistent c other → IsGood good other → IsWithin cut other

-- there is none
abbrev pub HasNoGood : Computation → (ℕ → ℕ → Bool) → Type 0
HasNoGood c good = (cut : List ℕ) → IsConsistent c cut → ¬ IsGood good cut

-- There is no other one.
abbrev pub OneLeastGood : Type 0
OneLeastGood =
    (c : Computation) (good : ℕ → ℕ → Bool) (a b : List ℕ) → IsLeastGood c good a → IsLeastGood c good b → a ≡ b
