-- Numbers in ascending order, and whether one is among them.
use Rattle.std.proofs.Common.{◌≡◌, ◌∙◌, ℕ, zero, suc, ◌+◌, ◌-◌, ◌<◌, ◌≤◌, List, [], ◌∷◌, length, refl, ap, sym, subst, arith, ℤ, pos, Bool, true, false, ◌||◌, ◌⊎◌, inl, inr}
use Rattle.std.specs.Prelude.{◌<ℤ◌, ◌≤ℤ◌}
use Rattle.std.specs.List.{insert}
use Rattle.std.specs.Ordering.{int_eq}
use Rattle.std.proofs.lemmas.Int.{ints}
use Rattle.std.proofs.lemmas.List.Edits.{get_or-insert_below, get_or-insert_at, get_or-insert_above, length-insert}
use Rattle.walk_tables.specs.Points.{Ascend, has_point, point_at}
use Rattle.walk_tables.specs.Zero.{IsBetween}

same_is_equal : (value point : ℤ) → point ≡ value → int_eq value point ≡ true
same_is_equal value point is = grind (arith, ints)

other_is_not : (value point : ℤ) → ((value <ℤ point) ⊎ (point <ℤ value)) → int_eq value point ≡ false
other_is_not value point apart = grind (arith, ints)

or_true : (a b : Bool) → b ≡ true → (a || b) ≡ true
or_true true b is = refl
or_true false b is = is

or_false : (a b : Bool) → a ≡ false → b ≡ false → (a || b) ≡ false
or_false a b first second = ap (λ (t : Bool). t || b) first ∙ second

-- a number that stands at some place is among them
pub has_at : (points : List ℤ) (i : ℕ) (value : ℤ) → i < length points → point_at points i ≡ value
    → has_point points value ≡ true
has_at [] i value lt is = absurd (omega (arith, lt))
has_at (point ∷ rest) zero value lt is =
    ap (λ (t : Bool). t || has_point rest value) (same_is_equal value point is)
has_at (point ∷ rest) (suc i) value lt is =
    or_true (int_eq value point) (has_point rest value) (has_at rest i value (omega (arith, lt)) is)

-- a number that stands at no place isn't
pub has_none : (points : List ℤ) (value : ℤ)
    → ((i : ℕ) → i < length points → ((value <ℤ point_at points i) ⊎ (point_at points i <ℤ value)))
    → has_point points value ≡ false
has_none [] value apart = refl
has_none (point ∷ rest) value apart =
    or_false (int_eq value point) (has_point rest value)
    (other_is_not value point (apart 0 (omega arith)))
    (has_none rest value (λ i lt. apart (suc i) (omega (arith, lt))))

or_swap : (a b c : Bool) → (a || (b || c)) ≡ (b || (a || c))
or_swap true true c = refl
or_swap true false c = refl
or_swap false true c = refl
or_swap false false c = refl

-- one number more
pub has_insert : (points : List ℤ) (i : ℕ) (point value : ℤ)
    → has_point (insert points i point) value ≡ (int_eq value point || has_point points value)
has_insert points zero point value = refl
has_insert [] (suc i) point value = refl
has_insert (first ∷ rest) (suc i) point value =
    ap (λ (t : Bool). int_eq value first || t) (has_insert rest i point value)
    ∙ or_swap (int_eq value first) (int_eq value point) (has_point rest value)

-- a number that is among them adds nothing
pub has_again : (points : List ℤ) (i : ℕ) (point value : ℤ) → i < length points → point_at points i ≡ point
    → has_point points value ≡ (int_eq value point || has_point points value)
has_again [] i point value lt is = absurd (omega (arith, lt))
has_again (first ∷ rest) zero point value lt is =
    ap (λ (p : ℤ). int_eq value first || has_point rest value) is ∙ or_same value first point (has_point rest value) is
  where
    or_same : (value first point : ℤ) (rest : Bool) → first ≡ point
        → (int_eq value first || rest) ≡ (int_eq value point || (int_eq value first || rest))
    or_same value first point rest is = grind (arith, ints)
has_again (first ∷ rest) (suc i) point value lt is =
    ap (λ (t : Bool). int_eq value first || t) (has_again rest i point value (omega (arith, lt)) is)
    ∙ or_swap (int_eq value first) (int_eq value point) (has_point rest value)

-- a number that is put between those below it and those above it
pub ascend_insert : (points : List ℤ) (at : ℕ) (point : ℤ) → at ≤ length points → Ascend points
    → ((k : ℕ) → k < at → point_at points k <ℤ point)
    → ((k : ℕ) → at ≤ k → k < length points → point <ℤ point_at points k)
    → Ascend (insert points at point)
ascend_insert points at point within ascend below above i j lt long = go (compare i) (compare j)
  where
    all : length (insert points at point) ≡ length points + 1
    all = length-insert points at point within

    Place : ℕ → Type 0
    Place k = (k < at) ⊎ ((k ≡ at) ⊎ (at < k))

    compare : (k : ℕ) → Place k
    compare k = grind arith

    before : (k : ℕ) → k < at → point_at (insert points at point) k ≡ point_at points k
    before k h = get_or-insert_below points at point (pos 0) k h within

    here : (k : ℕ) → k ≡ at → point_at (insert points at point) k ≡ point
    here k is = ap (λ (n : ℕ). point_at (insert points at point) n) is ∙ get_or-insert_at points at point (pos 0) within

    after : (k : ℕ) → at < k → point_at (insert points at point) k ≡ point_at points (k - 1)
    after k h =
        subst (λ (n : ℕ). point_at (insert points at point) n ≡ point_at points (k - 1)) (omega (arith, h))
        (get_or-insert_above points at point (pos 0) (k - 1) (omega (arith, h)) within)

    go : Place i → Place j → point_at (insert points at point) i <ℤ point_at (insert points at point) j
    go (inl a) (inl b) = omega (arith, ints, before i a, before j b, ascend i j lt (omega (arith, within)))
    go (inl a) (inr (inl b)) = omega (arith, ints, before i a, here j b, below i a)
    go (inl a) (inr (inr b)) =
        omega (arith, ints, before i a, after j b, ascend i (j - 1) (omega arith) (omega (arith, all, long)))
    go (inr (inl a)) (inl b) = absurd (omega (arith, a, b, lt))
    go (inr (inl a)) (inr (inl b)) = absurd (omega (arith, a, b, lt))
    go (inr (inl a)) (inr (inr b)) =
        omega (arith, ints, here i a, after j b, above (j - 1) (omega (arith, b)) (omega (arith, all, long)))
    go (inr (inr a)) (inl b) = absurd (omega (arith, a, b, lt))
    go (inr (inr a)) (inr (inl b)) = absurd (omega (arith, a, b, lt))
    go (inr (inr a)) (inr (inr b)) =
        omega (
          arith,
          ints,
          after i a,
          after j b,
          ascend (i - 1) (j - 1) (omega (arith, a, lt)) (omega (
            arith,
            all,
            long,
          )),
        )

-- one truth, by what each value of the other one says
pub same_truth : (t b : Bool) → (t ≡ true → b ≡ true) → (t ≡ false → b ≡ false) → t ≡ b
same_truth true b all none = sym (all refl)
same_truth false b all none = sym (none refl)

pub equal_is : (point value : ℤ) → int_eq point value ≡ true → point ≡ value
equal_is point value is = grind (arith, ints)

pub strictly : (value point : ℤ) → value ≤ℤ point → int_eq point value ≡ false → value <ℤ point
strictly value point le other = grind (arith, ints)

-- what isn't at its place in the order is at none
pub apart_at : (points : List ℤ) (at : ℕ) (value : ℤ) → Ascend points
    → ((k : ℕ) → k < at → point_at points k <ℤ value)
    → ((k : ℕ) → at ≤ k → k < length points → value ≤ℤ point_at points k)
    → (at < length points → int_eq (point_at points at) value ≡ false)
    → (k : ℕ) → at ≤ k → k < length points → value <ℤ point_at points k
apart_at points at value ascend below rest other k le lt = go (compare le)
  where
    Place : ℕ → Type 0
    Place k = (k ≡ at) ⊎ (at < k)

    compare : at ≤ k → Place k
    compare from = grind (arith, from)

    first : at < length points → value <ℤ point_at points at
    first h = strictly value (point_at points at) (rest at (omega arith) h) (other h)

    go : Place k → value <ℤ point_at points k
    go (inl is) = subst (λ (n : ℕ). value <ℤ point_at points n) (sym is) (first (omega (arith, is, lt)))
    go (inr more) = omega (arith, ints, ascend at k more lt, rest at (omega arith) (omega (arith, more, lt)))

-- whether a number is among them, by its place in the order
pub found_is : (points : List ℤ) (at : ℕ) (value : ℤ) (found : Bool) → Ascend points
    → ((k : ℕ) → k < at → point_at points k <ℤ value)
    → ((k : ℕ) → at ≤ k → k < length points → value ≤ℤ point_at points k)
    → (found ≡ true → (at < length points) × (int_eq (point_at points at) value ≡ true))
    → (found ≡ false → at < length points → int_eq (point_at points at) value ≡ false)
    → found ≡ has_point points value
found_is points at value found ascend below rest there other =
    same_truth found (has_point points value)
    (λ held. has_at points at value (there held).0 (equal_is (point_at points at) value (there held).1))
    (λ not_held. has_none points value (λ k lt. place k lt (apart_at points at value ascend below rest (other
    not_held) k) (compare k)))
  where
    compare : (k : ℕ) → (k < at) ⊎ (at ≤ k)
    compare k = grind arith

    place : (k : ℕ) → k < length points → (at ≤ k → k < length points → value <ℤ point_at points k)
        → ((k < at) ⊎ (at ≤ k)) → ((value <ℤ point_at points k) ⊎ (point_at points k <ℤ value))
    place k lt later (inl less) = inr (below k less)
    place k lt later (inr le) = inl (later le lt)

-- none is among them between a number and the next one that is
pub none_between : (points : List ℤ) (at : ℕ) (least greatest value : ℤ) → Ascend points
    → ((k : ℕ) → k < at → point_at points k <ℤ least)
    → (at < length points → greatest <ℤ point_at points at) → IsBetween least greatest value
    → has_point points value ≡ false
none_between points at least greatest value ascend below past between =
    has_none points value (λ k lt. place k lt (compare k))
  where
    compare : (k : ℕ) → (k < at) ⊎ ((k ≡ at) ⊎ (at < k))
    compare k = grind arith

    place : (k : ℕ) → k < length points → ((k < at) ⊎ ((k ≡ at) ⊎ (at < k)))
        → ((value <ℤ point_at points k) ⊎ (point_at points k <ℤ value))
    place k lt (inl less) = inr (omega (arith, ints, below k less, between.0))
    place k lt (inr (inl is)) =
        inl (subst (λ (n : ℕ). value <ℤ point_at points n) (sym is)
        (omega (arith, ints, past (omega (arith, is, lt)), between.1)))
    place k lt (inr (inr more)) =
        inl (omega (arith, ints, past (omega (arith, more, lt)), between.1, ascend at k more lt))

-- the numbers up to one that is less, and those from one on that isn't
pub below_middle : (points : List ℤ) (m : ℕ) (value : ℤ) → Ascend points → m < length points
    → point_at points m <ℤ value → (k : ℕ) → k < m + 1 → point_at points k <ℤ value
below_middle points m value ascend within less k lt = go compare
  where
    compare : (k ≡ m) ⊎ (k < m)
    compare = grind (arith, lt)

    go : ((k ≡ m) ⊎ (k < m)) → point_at points k <ℤ value
    go (inl is) = subst (λ (n : ℕ). point_at points n <ℤ value) (sym is) less
    go (inr before) = omega (arith, ints, ascend k m before within, less)

pub from_middle : (points : List ℤ) (m : ℕ) (value : ℤ) → Ascend points
    → value ≤ℤ point_at points m → (k : ℕ) → m ≤ k → k < length points → value ≤ℤ point_at points k
from_middle points m value ascend least k le lt = go compare
  where
    compare : (k ≡ m) ⊎ (m < k)
    compare = grind (arith, le)

    go : ((k ≡ m) ⊎ (m < k)) → value ≤ℤ point_at points k
    go (inl is) = subst (λ (n : ℕ). value ≤ℤ point_at points n) (sym is) least
    go (inr after) = omega (arith, ints, ascend m k after lt, least)
