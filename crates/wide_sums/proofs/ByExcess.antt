-- Comparisons by how much one sum is more than the other.
use Rattle.std.proofs.Common.{◌≡◌, inl, inr, ℕ, List, refl, sym, ℤ, pos, ◌-ℤ◌, ◌<ℤ◌, ◌≤ℤ◌, arith}
use Rattle.std.proofs.lemmas.Int.{ints}
use Rattle.std.specs.Prelude.{Bool, true, false, not}
use Rattle.def_model.specs.Predicates.{Comparison, Equals, Differs, IsLess, IsAtMost, IsGreater, IsAtLeast, Recorded, compares, state_at, sum_value}
use Rattle.def_wide.specs.Sums.{AtEach, IsExcludedAs, excess}
use Rattle.def_wide.specs.Terms.{Literal, literal_holds}
use Rattle.wide_sums.specs.Verdicts.{AtSome, IsNotExcludedAs, Relates}

pub from_not_true : (b : Bool) → not b ≡ true → b ≡ false
from_not_true true is = sym is
from_not_true false is = refl

pub from_not : (b : Bool) → not b ≡ false → b ≡ true
from_not true is = refl
from_not false is = sym is

-- less by 1 or more is less
pub below_one : (InSlice : List ℕ → Type 0) (r : Recorded) (l : Literal)
    → AtSome InSlice r l (λ x. x ≤ℤ (pos 0 -ℤ pos 1)) → AtSome InSlice r l (Relates IsLess)
below_one InSlice r l (cut, inside, less) = (cut, inside, omega (arith, ints, less))

-- more by 1 or more is more
pub above_one : (InSlice : List ℕ → Type 0) (r : Recorded) (l : Literal)
    → AtSome InSlice r l (λ x. pos 1 ≤ℤ x) → AtSome InSlice r l (Relates IsGreater)
above_one InSlice r l (cut, inside, more) = (cut, inside, omega (arith, ints, more))

-- not more by 1 or more is not more
pub never_above_one : (InSlice : List ℕ → Type 0) (r : Recorded) (l : Literal)
    → AtEach InSlice r l (λ x. x <ℤ pos 1) → AtEach InSlice r l (λ x. x ≤ℤ pos 0)
never_above_one InSlice r l each cut inside = omega (arith, ints, each cut inside)

-- not less by 1 or more is not less
pub never_below_one : (InSlice : List ℕ → Type 0) (r : Recorded) (l : Literal)
    → AtEach InSlice r l (λ x. (pos 0 -ℤ pos 1) <ℤ x) → AtEach InSlice r l (λ x. pos 0 ≤ℤ x)
never_below_one InSlice r l each cut inside = omega (arith, ints, each cut inside)

-- ---- comparisons hold as the excess relates to 0

compares_relates : (comparison : Comparison) (x y : ℤ) → compares comparison x y ≡ true
    → Relates comparison (x -ℤ y)
compares_relates Equals x y holds = grind (arith, ints)
compares_relates Differs x y holds = grind (arith, ints)
compares_relates IsLess x y holds = grind (arith, ints)
compares_relates IsAtMost x y holds = grind (arith, ints)
compares_relates IsGreater x y holds = grind (arith, ints)
compares_relates IsAtLeast x y holds = grind (arith, ints)

relates_compares : (comparison : Comparison) (x y : ℤ) → Relates comparison (x -ℤ y)
    → compares comparison x y ≡ true
relates_compares Equals x y relates = grind (arith, ints)
relates_compares Differs x y relates = grind (arith, ints)
relates_compares IsLess x y relates = grind (arith, ints)
relates_compares IsAtMost x y relates = grind (arith, ints)
relates_compares IsGreater x y relates = grind (arith, ints)
relates_compares IsAtLeast x y relates = grind (arith, ints)

pub holds_relates : (r : Recorded) (l : Literal) (cut : List ℕ) → literal_holds r l cut ≡ true
    → Relates l.comparison (excess r l cut)
holds_relates r l cut holds =
    compares_relates l.comparison (sum_value (state_at r.initial r.events cut) l.left)
    (sum_value (state_at r.initial r.events cut) l.right) holds

pub relates_holds : (r : Recorded) (l : Literal) (cut : List ℕ) → Relates l.comparison (excess r l cut)
    → literal_holds r l cut ≡ true
relates_holds r l cut relates =
    relates_compares l.comparison (sum_value (state_at r.initial r.events cut) l.left)
    (sum_value (state_at r.initial r.events cut) l.right) relates

-- ---- excluded comparisons

module _ (InSlice : List ℕ → Type 0) (r : Recorded) (l : Literal) where
  -- what is excluded doesn't hold at a cut of the slice
  excluded_as : (comparison : Comparison) → IsExcludedAs comparison InSlice r l → (cut : List ℕ) → InSlice cut
      → ¬ Relates comparison (excess r l cut)
  excluded_as Equals (inl below) cut inside relates = omega (arith, ints, below cut inside, relates)
  excluded_as Equals (inr above) cut inside relates = omega (arith, ints, above cut inside, relates)
  excluded_as Differs each cut inside relates = relates (each cut inside)
  excluded_as IsLess each cut inside relates = omega (arith, ints, each cut inside, relates)
  excluded_as IsAtMost each cut inside relates = omega (arith, ints, each cut inside, relates)
  excluded_as IsGreater each cut inside relates = omega (arith, ints, each cut inside, relates)
  excluded_as IsAtLeast each cut inside relates = omega (arith, ints, each cut inside, relates)

  pub excluded_holds : IsExcludedAs l.comparison InSlice r l → (cut : List ℕ) → InSlice cut
      → ¬ (literal_holds r l cut ≡ true)
  excluded_holds excluded cut inside holds =
      excluded_as l.comparison excluded cut inside (holds_relates r l cut holds)

  -- both can't be
  pub not_excluded : (comparison : Comparison) → IsNotExcludedAs comparison InSlice r l
      → ¬ IsExcludedAs comparison InSlice r l
  not_excluded Equals (some, other) (inl below) = omega (arith, ints, some.2, below some.0 some.1)
  not_excluded Equals (some, other) (inr above) = omega (arith, ints, other.2, above other.0 other.1)
  not_excluded Differs some each = some.2 (each some.0 some.1)
  not_excluded IsLess some each = omega (arith, ints, some.2, each some.0 some.1)
  not_excluded IsAtMost some each = omega (arith, ints, some.2, each some.0 some.1)
  not_excluded IsGreater some each = omega (arith, ints, some.2, each some.0 some.1)
  not_excluded IsAtLeast some each = omega (arith, ints, some.2, each some.0 some.1)

-- in a slice of fewer cuts
pub excluded_within : (Wide Narrow : List ℕ → Type 0) (r : Recorded) (l : Literal) (comparison : Comparison)
    → ((cut : List ℕ) → Narrow cut → Wide cut) → IsExcludedAs comparison Wide r l
    → IsExcludedAs comparison Narrow r l
excluded_within Wide Narrow r l Equals within (inl below) = inl (λ cut inside. below cut (within cut inside))
excluded_within Wide Narrow r l Equals within (inr above) = inr (λ cut inside. above cut (within cut inside))
excluded_within Wide Narrow r l Differs within each = λ cut inside. each cut (within cut inside)
excluded_within Wide Narrow r l IsLess within each = λ cut inside. each cut (within cut inside)
excluded_within Wide Narrow r l IsAtMost within each = λ cut inside. each cut (within cut inside)
excluded_within Wide Narrow r l IsGreater within each = λ cut inside. each cut (within cut inside)
excluded_within Wide Narrow r l IsAtLeast within each = λ cut inside. each cut (within cut inside)
