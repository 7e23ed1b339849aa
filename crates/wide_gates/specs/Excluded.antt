-- Which comparisons are excluded in a set of counts, by the greatest excess there.
use Rattle.std.specs.Prelude.{⊤, ◌≡◌, ℕ, ◌<◌, ◌⊎◌, List, length, ℤ, ◌<ℤ◌, ◌≤ℤ◌, pos, slice_index_or}
use Rattle.def_model.specs.Predicates.{Sign, Term, Comparison, Equals, Differs, IsLess, IsAtMost, IsGreater, IsAtLeast, Recorded}
use Rattle.def_wide.specs.Sums.{excess_of}
use Rattle.wide_gates.specs.Spots.{IsAt}
use Rattle.wide_gates.specs.declared.spot.Spot.{Spot}

-- the left sum is more than the right one by `above` at most, and the right one more than the left one by `below`
abbrev pub ExcludedBy : Comparison → ℤ → ℤ → Type 0
ExcludedBy Equals above below = (above <ℤ pos 0) ⊎ (below <ℤ pos 0)
ExcludedBy Differs above below = (above ≤ℤ pos 0) × (below ≤ℤ pos 0)
ExcludedBy IsLess above below = below ≤ℤ pos 0
ExcludedBy IsAtMost above below = below <ℤ pos 0
ExcludedBy IsGreater above below = above ≤ℤ pos 0
ExcludedBy IsAtLeast above below = above <ℤ pos 0

-- one of the two numbers alone says it
abbrev pub IsOfAbove : Comparison → Type 0
IsOfAbove Equals = ⊥
IsOfAbove Differs = ⊥
IsOfAbove IsLess = ⊥
IsOfAbove IsAtMost = ⊥
IsOfAbove IsGreater = ⊤
IsOfAbove IsAtLeast = ⊤

abbrev pub IsOfBelow : Comparison → Type 0
IsOfBelow Equals = ⊥
IsOfBelow Differs = ⊥
IsOfBelow IsLess = ⊤
IsOfBelow IsAtMost = ⊤
IsOfBelow IsGreater = ⊥
IsOfBelow IsAtLeast = ⊥

-- by how much one sum is more than the other at most at the counts of a set
pub record IsMostExcess (InSet : List ℕ → Type 0) (r : Recorded) (left right : List (Sign × Term)) (x : ℤ)
    : Type 0 where
  pub counts : List ℕ
  pub inside : InSet counts
  pub is : excess_of r left right counts ≡ x
  pub most : (other : List ℕ) → InSet other → excess_of r left right other ≤ℤ x

-- at each spot
pub record AreMostExcess (r : Recorded) (spots : List Spot) (left right : List (Sign × Term)) (sums : List ℤ) : Type 0
  where
    pub one_each : length sums ≡ length spots
    pub each : (k : ℕ) (d : Spot) → k < length spots
        → IsMostExcess (IsAt r.events (slice_index_or spots k d)) r left right (slice_index_or sums k (pos 0))
