-- The first of several least good cuts, one more at a time.
use Rattle.std.proofs.Common.{◌≡◌, ◌+◌, ◌<◌, ◌≤◌, ◌⊎◌, inl, inr, ℕ, Bool, List, Option, Some, None, subst, arith}
use Rattle.std.proofs.lemmas.Bool.{cases_lt}
use Rattle.def_model.specs.Events.{Computation}
use Rattle.wide_conjunctions.specs.LeastCuts.{HasNoGood, IsGood, IsLeastGood, OneLeastGood}
use Rattle.wide_conjunctions.specs.CutOrder.{BeforeOnward, ComesBefore, IsFirstLeast, NotBeforeItself}
use Rattle.wide_terms.specs.FirstCuts.{IsFirstSoFar}

-- the least good cut of the last number doesn't come before itself
none_of_last : (c : Computation) (goods : ℕ → ℕ → ℕ → Bool) (n : ℕ) (cut : List ℕ) → OneLeastGood → NotBeforeItself
    → IsLeastGood c (goods n) cut → (i : ℕ) (other : List ℕ) → i ≡ n → IsLeastGood c (goods i) other
    → ¬ ComesBefore other cut
none_of_last c goods n cut one apart least i other same least' before =
    let is : other ≡ cut =
    one c (goods n) other cut (subst (λ (j : ℕ). IsLeastGood c (goods j) other) same least') least
    in
    apart cut (subst (λ (first : List ℕ). ComesBefore first cut) is before)

-- the first that there is
pub first_one : (c : Computation) (goods : ℕ → ℕ → ℕ → Bool) (n : ℕ) (cut : List ℕ) → OneLeastGood → NotBeforeItself
    → ((i : ℕ) → i < n → HasNoGood c (goods i)) → IsLeastGood c (goods n) cut → IsFirstLeast c goods (n + 1) cut
first_one c goods n cut one apart none least = record {
  number = n;
  within = omega arith;
  least = least;
  first = λ i other lt least' before. go i other lt least' before (cases_lt i n);
}
  where
    go : (i : ℕ) (other : List ℕ) → i < n + 1 → IsLeastGood c (goods i) other → ComesBefore other cut
        → (i < n) ⊎ (n ≤ i) → ⊥
    go i other lt least' before (inl below) = none i below other least'.consistent least'.good_there
    go i other lt least' before (inr le) =
        none_of_last c goods n cut one apart least i other (omega arith) least' before

-- the last one comes before the first so far
pub first_new : (c : Computation) (goods : ℕ → ℕ → ℕ → Bool) (n : ℕ) (known cut : List ℕ) → OneLeastGood
    → NotBeforeItself → BeforeOnward → IsFirstLeast c goods n known → IsLeastGood c (goods n) cut
    → ComesBefore cut known → IsFirstLeast c goods (n + 1) cut
first_new c goods n known cut one apart onward so_far least earlier = record {
  number = n;
  within = omega arith;
  least = least;
  first = λ i other lt least' before. go i other lt least' before (cases_lt i n);
}
  where
    go : (i : ℕ) (other : List ℕ) → i < n + 1 → IsLeastGood c (goods i) other → ComesBefore other cut
        → (i < n) ⊎ (n ≤ i) → ⊥
    go i other lt least' before (inl below) =
        so_far.first i other below least' (onward other cut known before earlier)
    go i other lt least' before (inr le) =
        none_of_last c goods n cut one apart least i other (omega arith) least' before

-- it doesn't
pub first_old : (c : Computation) (goods : ℕ → ℕ → ℕ → Bool) (n : ℕ) (known cut : List ℕ) → OneLeastGood
    → IsFirstLeast c goods n known → IsLeastGood c (goods n) cut → ¬ ComesBefore cut known
    → IsFirstLeast c goods (n + 1) known
first_old c goods n known cut one so_far least later = record {
  number = so_far.number;
  within = let within : so_far.number < n = so_far.within in omega arith;
  least = so_far.least;
  first = λ i other lt least' before. go i other lt least' before (cases_lt i n);
}
  where
    go : (i : ℕ) (other : List ℕ) → i < n + 1 → IsLeastGood c (goods i) other → ComesBefore other known
        → (i < n) ⊎ (n ≤ i) → ⊥
    go i other lt least' before (inl below) = so_far.first i other below least' before
    go i other lt least' before (inr le) =
        let same : i ≡ n = omega arith in
        let is : other ≡ cut =
        one c (goods n) other cut (subst (λ (j : ℕ). IsLeastGood c (goods j) other) same least') least in
        later (subst (λ (first : List ℕ). ComesBefore first known) is before)

-- the next number has no good cut
pub none_more : (c : Computation) (goods : ℕ → ℕ → ℕ → Bool) (n : ℕ) (first : Option (List ℕ))
    → IsFirstSoFar c goods n first → HasNoGood c (goods n) → IsFirstSoFar c goods (n + 1) first
none_more c goods n None so_far none = λ i lt. go i lt (cases_lt i n)
  where
    go : (i : ℕ) → i < n + 1 → (i < n) ⊎ (n ≤ i) → HasNoGood c (goods i)
    go i lt (inl below) = so_far i below
    go i lt (inr le) = let same : n ≡ i = omega arith in subst (λ (j : ℕ). HasNoGood c (goods j)) same none
none_more c goods n (Some cut) so_far none = record {
  number = so_far.number;
  within = let within : so_far.number < n = so_far.within in omega arith;
  least = so_far.least;
  first = λ i other lt least' before. go i other lt least' before (cases_lt i n);
}
  where
    go : (i : ℕ) (other : List ℕ) → i < n + 1 → IsLeastGood c (goods i) other → ComesBefore other cut
        → (i < n) ⊎ (n ≤ i) → ⊥
    go i other lt least' before (inl below) = so_far.first i other below least' before
    go i other lt least' before (inr le) =
        let same : i ≡ n = omega arith in
        none other least'.consistent
        (subst (λ (j : ℕ). IsGood (goods j) other) same least'.good_there)
