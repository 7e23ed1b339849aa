-- Predicates that speak of two processes alone.
use Rattle.std.specs.Prelude.{◌≡◌, ◌≢◌, ℕ, ◌<◌, ◌⊎◌, Option, Some, None, length}
use Rattle.def_model.specs.Events.{Computation}
use Rattle.def_model.specs.Predicates.{Predicate}
use Rattle.def_model.specs.Decided.{IsOfTwo, NamesOnly}
use Rattle.wide_pairs.specs.declared.pair.Pair.{Pair}

-- A process that is named and is neither p nor q, or none is. `Only x y` says that no process but x and y is named.
abbrev pub IsOther : (Only : ℕ → ℕ → Type 0) → ℕ → ℕ → Option ℕ → Type 0
IsOther Only p q None = Only p q
IsOther Only p q (Some r) = (r ≢ p) × (r ≢ q) × ((x y : ℕ) → Only x y → (r ≡ x) ⊎ (r ≡ y))

-- two processes, of which the first is before the second, and the predicate names no other
pub record AreNamed (predicate : Predicate) (pair : Pair) : Type 0 where
  pub order : pair.first < pair.second
  pub only : NamesOnly pair.first pair.second predicate
  -- the second is no later than it has to be
  pub needed : (x y : ℕ) → NamesOnly x y predicate → (pair.second ≡ 1) ⊎ ((pair.second ≡ x) ⊎ (pair.second ≡ y))

-- two such processes, or there are none
abbrev pub IsNamedPair : Predicate → Option Pair → Type 0
IsNamedPair predicate (Some pair) = AreNamed predicate pair
IsNamedPair predicate None = (x y : ℕ) → ¬ NamesOnly x y predicate

-- two processes of the computation by which the predicate is of two
pub record IsPairFor (c : Computation) (predicate : Predicate) (pair : Pair) : Type 0 where
  pub order : pair.first < pair.second
  pub there : pair.second < length c
  pub only : NamesOnly pair.first pair.second predicate

-- two such processes, or it isn't of two
abbrev pub IsPairOf : Computation → Predicate → Option Pair → Type 0
IsPairOf c predicate (Some pair) = IsPairFor c predicate pair
IsPairOf c predicate None = ¬ IsOfTwo c predicate
