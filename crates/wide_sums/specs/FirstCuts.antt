-- The lowest of some cuts, and those at which a comparison, a term or a predicate holds.
use Rattle.std.specs.Prelude.{◌≡◌, ℕ, ◌<◌, ◌⊎◌, true, List, [], Option, Some, None, ℤ, pos, ◌<ℤ◌, ◌≤ℤ◌, slice_index_or}
use Rattle.def_model.specs.Cuts.{IsConsistent}
use Rattle.def_model.specs.Predicates.{Comparison, Equals, Differs, IsLess, IsAtMost, IsGreater, IsAtLeast, Recorded}
use Rattle.def_wide.specs.Heights.{IsLowerThan}
use Rattle.def_wide.specs.Sums.{excess}
use Rattle.def_wide.specs.Terms.{Literal, term_holds}
use Rattle.wide_sums.specs.Verdicts.{Relates}

-- one of these cuts, and each other one is higher
pub record IsLowestOf (IsWanted : List ℕ → Type 0) (cut : List ℕ) : Type 0 where
  pub wanted : IsWanted cut
  pub lowest : (other : List ℕ) → IsWanted other → ¬ (other ≡ cut) → IsLowerThan cut other

-- the lowest of these cuts, or there is none
abbrev pub IsLowestIfAny : (List ℕ → Type 0) → Option (List ℕ) → Type 0
IsLowestIfAny IsWanted None = (cut : List ℕ) → ¬ IsWanted cut
IsLowestIfAny IsWanted (Some cut) = IsLowestOf IsWanted cut

-- the second of two cuts if it is lower, and else the first; or the one that there is
abbrev pub IsLowerOf : Option (List ℕ) → Option (List ℕ) → Option (List ℕ) → Type 0
IsLowerOf None second found = found ≡ second
IsLowerOf (Some a) None found = found ≡ Some a
IsLowerOf (Some a) (Some b) found =
    (IsLowerThan b a × (found ≡ Some b)) ⊎ ((¬ IsLowerThan b a) × (found ≡ Some a))

-- ---- comparisons

-- one of the cuts, and this is so of the excess at it
abbrev pub HasExcess : (List ℕ → Type 0) → Recorded → Literal → (ℤ → Type 0) → List ℕ → Type 0
HasExcess InSlice r l P cut = InSlice cut × P (excess r l cut)

-- What is found of an `==` over a slice with this least cut: that one if the excess is 0 there, and else the lowest cut
-- at which the excess has come to 0 or gone past it.
pub data IsLowestEqual (InSlice : List ℕ → Type 0) (r : Recorded) (l : Literal) (least : List ℕ)
    (found : Option (List ℕ)) : Type 0 where
  at_zero : excess r l least ≡ pos 0 → found ≡ Some least → IsLowestEqual InSlice r l least found
  up_to_zero : excess r l least <ℤ pos 0 → IsLowestIfAny (HasExcess InSlice r l (λ x. pos 0 ≤ℤ x)) found
      → IsLowestEqual InSlice r l least found
  down_to_zero : pos 0 <ℤ excess r l least → IsLowestIfAny (HasExcess InSlice r l (λ x. x ≤ℤ pos 0)) found
      → IsLowestEqual InSlice r l least found

-- the lowest cut of the slice that satisfies a comparison, and of `==` what is found of it
abbrev pub IsLowestAs : Comparison → (List ℕ → Type 0) → Recorded → Literal → List ℕ → Option (List ℕ) → Type 0
IsLowestAs Equals InSlice r l least found = IsLowestEqual InSlice r l least found
IsLowestAs Differs InSlice r l least found = IsLowestIfAny (HasExcess InSlice r l (Relates Differs)) found
IsLowestAs IsLess InSlice r l least found = IsLowestIfAny (HasExcess InSlice r l (Relates IsLess)) found
IsLowestAs IsAtMost InSlice r l least found = IsLowestIfAny (HasExcess InSlice r l (Relates IsAtMost)) found
IsLowestAs IsGreater InSlice r l least found = IsLowestIfAny (HasExcess InSlice r l (Relates IsGreater)) found
IsLowestAs IsAtLeast InSlice r l least found = IsLowestIfAny (HasExcess InSlice r l (Relates IsAtLeast)) found

-- ---- terms

-- a consistent cut at which the term holds
abbrev pub Satisfies : Recorded → List Literal → List ℕ → Type 0
Satisfies r term cut = IsConsistent r.events cut × (term_holds r term cut ≡ true)

-- one at which one of the first terms holds, of which there are this many
abbrev pub SatisfiesSome : Recorded → List (List Literal) → ℕ → List ℕ → Type 0
SatisfiesSome r terms many cut = (k : ℕ) × (k < many) × Satisfies r (slice_index_or terms k []) cut
