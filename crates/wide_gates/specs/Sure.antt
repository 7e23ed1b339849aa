-- Where a predicate surely has a value.
use Rattle.std.specs.Prelude.{◌≡◌, ◌↔◌, ℕ, ◌<◌, Bool, true, false, IsTrue, List, length, ℤ, pos, slice_index_or}
use Rattle.def_model.specs.Predicates.{Sign, Term, Comparison, Predicate, Recorded}
use Rattle.def_wide.specs.Gates.{IsSurely}
use Rattle.def_wide.specs.Sums.{IsExcludedAs}
use Rattle.wide_gates.specs.Excluded.{ExcludedBy}
use Rattle.wide_gates.specs.Flags.{AreBoth, AreEither}
use Rattle.wide_gates.specs.Spots.{IsAt}
use Rattle.wide_gates.specs.declared.spot.Spot.{Spot}

-- where the greatest excess on both sides excludes the comparison
pub record AreExcluded (comparison : Comparison) (above below : List ℤ) (flags : List Bool) : Type 0 where
  pub one_each : length flags ≡ length above
  pub each : (k : ℕ) → k < length above → IsTrue (slice_index_or flags k false)
      ↔ ExcludedBy comparison (slice_index_or above k (pos 0)) (slice_index_or below k (pos 0))

-- at these spots the comparison is excluded
pub record AreExcludedAs (r : Recorded) (spots : List Spot) (comparison : Comparison) (left right : List (Sign × Term))
    (flags : List Bool) : Type 0 where
  pub one_each : length flags ≡ length spots
  pub each : (k : ℕ) (d : Spot) → k < length spots
      → IsTrue (slice_index_or flags k false)
      ↔ IsExcludedAs comparison (IsAt r.events (slice_index_or spots k d)) r
      (record { left = left; comparison = comparison; right = right })

-- where both of two lists have true, or one of them
abbrev pub AreJoined : Bool → List Bool → List Bool → List Bool → Type 0
AreJoined true left right flags = AreBoth left right flags
AreJoined false left right flags = AreEither left right flags

-- at these spots the predicate surely has the value
pub record AreWhere (value : Bool) (r : Recorded) (spots : List Spot) (predicate : Predicate) (flags : List Bool)
    : Type 0 where
  pub one_each : length flags ≡ length spots
  pub each : (k : ℕ) (d : Spot) → k < length spots
      → IsTrue (slice_index_or flags k false)
      ↔ IsSurely value (IsAt r.events (slice_index_or spots k d)) r predicate
