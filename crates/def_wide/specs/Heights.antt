-- Another order of cuts: by their greatest count.
use Rattle.std.specs.Prelude.{◌≡◌, ℕ, ◌<◌, ◌⊎◌, Bool, true, List, [], ◌∷◌, max}
use Rattle.def_model.specs.Answers.{LexBelow}
use Rattle.def_model.specs.Cuts.{IsConsistent}
use Rattle.def_model.specs.Events.{Computation}

-- the greatest count of a cut
abbrev pub height : List ℕ → ℕ
height [] = 0
height (count ∷ rest) = max count (height rest)

-- a lesser height, or the same one and lexicographically before
abbrev pub IsLowerThan : List ℕ → List ℕ → Type 0
IsLowerThan a b = (height a < height b) ⊎ ((height a ≡ height b) × LexBelow a b)

-- The cut satisfies, and each other one that does is higher, or as high and lexicographically after it.
pub record IsFirstByHeight (c : Computation) (test : List ℕ → Bool) (cut : List ℕ) : Type 0 where
  pub consistent : IsConsistent c cut
  pub satisfies : test cut ≡ true
  pub first : (other : List ℕ) → IsConsistent c other → test other ≡ true → ¬ (other ≡ cut) → IsLowerThan cut other
