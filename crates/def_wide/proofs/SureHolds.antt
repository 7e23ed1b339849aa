-- What a predicate surely is at the counts of a set, it is at each of them.
use Rattle.std.proofs.Common.{◌≡◌, inl, inr, ◌⊎◌, ℕ, List, refl, sym, ap, ap₂, ◌∙◌, ℤ, pos, ◌-ℤ◌, ◌<ℤ◌, ◌≤ℤ◌, arith}
use Rattle.std.proofs.lemmas.Int.{ints}
use Rattle.std.specs.Prelude.{Bool, true, false, ◌&&◌, ◌||◌, not}
use Rattle.def_model.specs.Predicates.{Sign, Term, Comparison, Equals, Differs, IsLess, IsAtMost, IsGreater, IsAtLeast, Predicate, Always, Never, Compare, Not, And, Or, Recorded, compares, state_at, sum_value, test_of}
use Rattle.def_wide.specs.Gates.{IsSurely}
use Rattle.def_wide.specs.Sums.{IsExcludedAs}
use Rattle.def_wide.specs.Terms.{opposite}
use Rattle.def_wide.proofs.TermMeanings.{opposite_compares}

-- what the excess is where a comparison is excluded
abbrev IsOff : Comparison → ℤ → Type 0
IsOff Equals x = (x <ℤ pos 0) ⊎ (pos 0 <ℤ x)
IsOff Differs x = x ≡ pos 0
IsOff IsLess x = pos 0 ≤ℤ x
IsOff IsAtMost x = pos 0 <ℤ x
IsOff IsGreater x = x ≤ℤ pos 0
IsOff IsAtLeast x = x <ℤ pos 0

off_fails : (comparison : Comparison) (x y : ℤ) → IsOff comparison (x -ℤ y) → compares comparison x y ≡ false
off_fails Equals x y (inl below) = grind (arith, ints)
off_fails Equals x y (inr above) = grind (arith, ints)
off_fails Differs x y off = grind (arith, ints)
off_fails IsLess x y off = grind (arith, ints)
off_fails IsAtMost x y off = grind (arith, ints)
off_fails IsGreater x y off = grind (arith, ints)
off_fails IsAtLeast x y off = grind (arith, ints)

from_not : (b : Bool) → not b ≡ false → b ≡ true
from_not true is = refl
from_not false is = sym is

and_false : (a b : Bool) → (a ≡ false) ⊎ (b ≡ false) → (a && b) ≡ false
and_false a b (inl is) = ap (λ (x : Bool). x && b) is
and_false true b (inr is) = is
and_false false b (inr is) = refl

or_true : (a b : Bool) → (a ≡ true) ⊎ (b ≡ true) → (a || b) ≡ true
or_true a b (inl is) = ap (λ (x : Bool). x || b) is
or_true true b (inr is) = refl
or_true false b (inr is) = is

module _ (InSet : List ℕ → Type 0) (r : Recorded) (cut : List ℕ) (inside : InSet cut) where
  off_at : (left : List (Sign × Term)) (right : List (Sign × Term)) (written comparison : Comparison)
      → IsExcludedAs comparison InSet r (record { left = left; comparison = written; right = right })
      → IsOff comparison (sum_value (state_at r.initial r.events cut) left
      -ℤ sum_value (state_at r.initial r.events cut) right)
  off_at left right written Equals (inl below) = inl (below cut inside)
  off_at left right written Equals (inr above) = inr (above cut inside)
  off_at left right written Differs each = each cut inside
  off_at left right written IsLess each = each cut inside
  off_at left right written IsAtMost each = each cut inside
  off_at left right written IsGreater each = each cut inside
  off_at left right written IsAtLeast each = each cut inside

  -- a comparison that is excluded doesn't hold
  excluded_fails : (left : List (Sign × Term)) (right : List (Sign × Term)) (written comparison : Comparison)
      → IsExcludedAs comparison InSet r (record { left = left; comparison = written; right = right })
      → compares comparison (sum_value (state_at r.initial r.events cut) left)
      (sum_value (state_at r.initial r.events cut) right) ≡ false
  excluded_fails left right written comparison excluded =
      off_fails comparison (sum_value (state_at r.initial r.events cut) left)
      (sum_value (state_at r.initial r.events cut) right) (off_at left right written comparison excluded)

  sure : (value : Bool) (predicate : Predicate) → IsSurely value InSet r predicate → test_of r predicate cut ≡ value
  sure value Always is = sym is
  sure value Never is = sym is
  sure true (Compare left comparison right) is =
      from_not (test_of r (Compare left comparison right) cut)
      (sym (opposite_compares comparison (sum_value (state_at r.initial r.events cut) left)
      (sum_value (state_at r.initial r.events cut) right))
      ∙ excluded_fails left right comparison (opposite comparison) is)
  sure false (Compare left comparison right) is = excluded_fails left right comparison comparison is
  sure true (Not inner) is = ap not (sure false inner is)
  sure false (Not inner) is = ap not (sure true inner is)
  sure true (And left right) is = ap₂ (λ (a b : Bool). a && b) (sure true left is.0) (sure true right is.1)
  sure false (And left right) (inl is) =
      and_false (test_of r left cut) (test_of r right cut) (inl (sure false left is))
  sure false (And left right) (inr is) =
      and_false (test_of r left cut) (test_of r right cut) (inr (sure false right is))
  sure true (Or left right) (inl is) = or_true (test_of r left cut) (test_of r right cut) (inl (sure true left is))
  sure true (Or left right) (inr is) = or_true (test_of r left cut) (test_of r right cut) (inr (sure true right is))
  sure false (Or left right) is = ap₂ (λ (a b : Bool). a || b) (sure false left is.0) (sure false right is.1)

-- it holds at each, or fails at each
pub sure_true : (InSet : List ℕ → Type 0) (r : Recorded) (predicate : Predicate) → IsSurely true InSet r predicate
    → (cut : List ℕ) → InSet cut → test_of r predicate cut ≡ true
sure_true InSet r predicate is cut inside = sure InSet r cut inside true predicate is

pub sure_false : (InSet : List ℕ → Type 0) (r : Recorded) (predicate : Predicate) → IsSurely false InSet r predicate
    → (cut : List ℕ) → InSet cut → test_of r predicate cut ≡ false
sure_false InSet r predicate is cut inside = sure InSet r cut inside false predicate is
