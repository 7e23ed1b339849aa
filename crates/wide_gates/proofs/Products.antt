-- Greatest sums, one process after another.
use Rattle.std.proofs.Common.{replicate, ◌≡◌, inl, inr, ◌⊎◌, ◌↔◌, ℕ, zero, suc, ◌+◌, ◌*◌, ◌<◌, ◌≤◌, List, [], ◌∷◌, ◌++◌, length, get_or, set, take, ℤ, pos, ◌+ℤ◌, ◌-ℤ◌, ◌≤ℤ◌, refl, sym, ap, ◌∙◌, subst, arith}
use Rattle.std.proofs.lemmas.Bool.{cases_eq}
use Rattle.std.proofs.lemmas.Int.{ints}
use Rattle.std.proofs.lemmas.List.{get_or-replicate, length-replicate, get_or_default, get_or-set_other, get_or-set_same, get_or-take, length-set, length-take-le, length_push, take_all, take_more}
use Rattle.std.specs.Prelude.{Vec, unsigned_abs}
use Rattle.std.specs.Global.{Global}
use Rattle.def_model.specs.Events.{Computation, IsEvent}
use Rattle.def_model.specs.Order.{HasNoCycle}
use Rattle.wide_gates.proofs.Beside.{apart, around, place_inside, together}
use Rattle.wide_gates.proofs.Pushes.{each_push}
use Rattle.wide_gates.specs.Boxes.{HasBox, HaveBoxes}
use Rattle.wide_gates.specs.Greatest.{AreBoxSums, IsMost, IsMostUpTo}
use Rattle.wide_gates.specs.Ranges.{InRanges}
use Rattle.wide_gates.specs.Spots.{AreThere, CanHave, IsAt, event_of, own_count}
use Rattle.wide_gates.specs.Tables.{IsGreatest}
use Rattle.wide_gates.specs.declared.range.Range.{Range}
use Rattle.wide_gates.specs.declared.spot.Spot.{Spot}
use Rattle.wide_slice.specs.Values.{AreValues, number_at, sum_at, value_limit, value_of}

-- what a process adds, by the place of its row
value_is : (values : List (Vec ℤ Global)) (p count : ℕ) (row : Vec ℤ Global) → p < length values
    → row ≡ get_or values p row → value_of values p count ≡ number_at row.items count
value_is [] p count row lt is = absurd (omega (arith, lt))
value_is (first ∷ values) zero count row lt is = ap (λ (r : Vec ℤ Global). number_at r.items count) (sym is)
value_is (first ∷ values) (suc p) count row lt is = value_is values p count row (omega (arith, lt)) is

pub value_at : (values : List (Vec ℤ Global)) (p count : ℕ) → p < length values
    → (row : Vec ℤ Global) × (value_of values p count ≡ number_at (get_or values p row).items count)
value_at [] p count lt = absurd (omega (arith, lt))
value_at (row ∷ values) zero count lt = (row, refl)
value_at (row ∷ values) (suc p) count lt = value_at values p count (omega (arith, lt))

pub value_past : (values : List (Vec ℤ Global)) (p count : ℕ) → length values ≤ p → value_of values p count ≡ pos 0
value_past [] p count le = refl
value_past (row ∷ values) zero count le = absurd (omega (arith, le))
value_past (row ∷ values) (suc p) count le = value_past values p count (omega (arith, le))

-- one process more
sum_push : (values : List (Vec ℤ Global)) (counts : List ℕ) (count : ℕ) → length counts < length values
    → sum_at values (counts ++ count ∷ []) ≡ sum_at values counts +ℤ value_of values (length counts) count
sum_push [] counts count lt = absurd (omega (arith, lt))
sum_push (row ∷ []) [] count lt = omega (arith, ints)
sum_push (row ∷ next ∷ values) [] count lt = omega (arith, ints)
sum_push (row ∷ values) (first ∷ counts) count lt =
    let rest : sum_at values (counts ++ count ∷ []) ≡ sum_at values counts +ℤ value_of values (length counts) count =
    sum_push values counts count (omega (arith, lt)) in
    omega (arith, ints, rest)

-- the greatest of the process added
pub most_more : (values : List (Vec ℤ Global)) (May : ℕ → ℕ → Type 0) (n : ℕ) (row : Vec ℤ Global) (low end : ℕ)
    (old x : ℤ) → n < length values → row ≡ get_or values n row → IsMostUpTo values May n old
    → IsGreatest row.items low end x → unsigned_abs x ≤ value_limit
    → ((count : ℕ) → ((low ≤ count) × (count < end)) ↔ May n count) → IsMostUpTo values May (n + 1) (old +ℤ x)
most_more values May n row low end old x lt at before is small may = record {
  counts = before.counts ++ is.count ∷ [];
  many = omega (arith, length_push before.counts is.count, before.many);
  each =
      each_push May before.counts (before.counts ++ is.count ∷ []) is.count 0 n before.many refl before.each
      ((may is.count).0 (is.from, is.up_to));
  is =
      let e : sum_at values (before.counts ++ is.count ∷ [])
      ≡ sum_at values before.counts +ℤ value_of values (length before.counts) is.count =
      sum_push values before.counts is.count (omega (arith, lt, before.many)) in
      let f : value_of values (length before.counts) is.count ≡ value_of values n is.count =
      ap (λ (m : ℕ). value_of values m is.count) before.many in
      let g : value_of values n is.count ≡ number_at row.items is.count = value_is values n is.count row lt at in
      omega (arith, ints, e, f, g, is.is, before.is);
  most = most;
  small = omega (arith, ints, before.small, small);
}
  where
    most : (other : List ℕ) → length other ≡ n + 1 → ((q : ℕ) → q < n + 1 → May q (get_or other q 0))
        → sum_at values other ≤ℤ (old +ℤ x)
    most other many each =
        let whole : take n other ++ get_or other n 0 ∷ [] ≡ other =
        sym (take_more other n 0 (omega (arith, many))) ∙ take_all (n + 1) other (omega (arith, many)) in
        let short : length (take n other) ≡ n = length-take-le n other (omega (arith, many)) in
        let e : sum_at values (take n other ++ get_or other n 0 ∷ [])
        ≡ sum_at values (take n other) +ℤ value_of values (length (take n other)) (get_or other n 0) =
        sum_push values (take n other) (get_or other n 0) (omega (arith, lt, short)) in
        let f : value_of values (length (take n other)) (get_or other n 0) ≡ value_of values n (get_or other n 0) =
        ap (λ (m : ℕ). value_of values m (get_or other n 0)) short in
        let g : value_of values n (get_or other n 0) ≡ number_at row.items (get_or other n 0) =
        value_is values n (get_or other n 0) row lt at in
        let h : sum_at values (take n other ++ get_or other n 0 ∷ []) ≡ sum_at values other =
        ap (sum_at values) whole in
        let between : (low ≤ get_or other n 0) × (get_or other n 0 < end) =
        (may (get_or other n 0)).1 (each n (omega arith)) in
        let own : number_at row.items (get_or other n 0) ≤ℤ x = is.most (get_or other n 0) between.0 between.1 in
        let rest : sum_at values (take n other) ≤ℤ old =
        before.most (take n other) short
        (λ q less. subst (May q) (sym (get_or-take n other q 0 less)) (each q (omega (arith, less)))) in
        omega (arith, ints, e, f, g, h, own, rest)

-- what is reached in a row is small
pub greatest_small : (c : Computation) (values : List (Vec ℤ Global)) (n : ℕ) (row : Vec ℤ Global) (low end : ℕ)
    (x : ℤ) → AreValues c values → n < length values → row ≡ get_or values n row → IsGreatest row.items low end x
    → unsigned_abs x ≤ value_limit
greatest_small c values n row low end x are lt at is =
    subst (λ (z : ℤ). unsigned_abs z ≤ value_limit) (value_is values n is.count row lt at ∙ is.is)
    (are.small n is.count)

-- no process yet
pub nothing_yet : (values : List (Vec ℤ Global)) (May : ℕ → ℕ → Type 0) → IsMostUpTo values May 0 (pos 0)
nothing_yet values May = record {
  counts = [];
  many = refl;
  each = λ q lt. absurd (omega (arith, lt));
  is = none values [] refl;
  most = λ other many each. omega (arith, ints, none values other many);
  small = omega arith;
}
  where
    none : (rows : List (Vec ℤ Global)) (other : List ℕ) → length other ≡ 0 → sum_at rows other ≡ pos 0
    none [] other many = refl
    none (row ∷ rows) [] many = refl
    none (row ∷ rows) (count ∷ other) many = absurd (omega (arith, many))

-- the greatest in the range of the process added
pub range_more : (values : List (Vec ℤ Global)) (ranges : List Range) (n : ℕ) (row : Vec ℤ Global) (d : Range)
    (old x : ℤ) → n < length values → n < length ranges → row ≡ get_or values n row
    → IsMostUpTo values (InRanges ranges) n old
    → IsGreatest row.items (get_or ranges n d).low ((get_or ranges n d).high + 1) x → unsigned_abs x ≤ value_limit
    → IsMostUpTo values (InRanges ranges) (n + 1) (old +ℤ x)
range_more values ranges n row d old x lt there at before is small =
    most_more values (InRanges ranges) n row (get_or ranges n d).low ((get_or ranges n d).high + 1) old x lt at before
    is small
    (λ count. (
      λ within. λ e. subst (λ (r : Range). (r.low ≤ count) × (count ≤ r.high)) (get_or_default ranges n d e there)
          (within.0, omega (arith, within.1)),
      λ may. let w : ((get_or ranges n d).low ≤ count) × (count ≤ (get_or ranges n d).high) = may d in
          (w.0, omega (arith, w.1)),
    ))

-- ---- one process at another count

sum_set : (values : List (Vec ℤ Global)) (counts : List ℕ) (p count : ℕ) → p < length values → p < length counts
    → sum_at values (set counts p count)
    ≡ sum_at values counts -ℤ value_of values p (get_or counts p 0) +ℤ value_of values p count
sum_set [] counts p count lt there = absurd (omega (arith, lt))
sum_set (row ∷ values) [] p count lt there = absurd (omega (arith, there))
sum_set (row ∷ values) (first ∷ counts) zero count lt there = omega (arith, ints)
sum_set (row ∷ values) (first ∷ counts) (suc p) count lt there =
    let rest : sum_at values (set counts p count)
    ≡ sum_at values counts -ℤ value_of values p (get_or counts p 0) +ℤ value_of values p count =
    sum_set values counts p count (omega (arith, lt)) (omega (arith, there)) in
    omega (arith, ints, rest)

module _ (c : Computation) (acyclic : HasNoCycle c) (spot : Spot) (event : IsEvent c (event_of spot))
    (values : List (Vec ℤ Global)) (one_each : length values ≡ length c) (ranges : List Range)
    (has : HasBox c spot ranges) (x : ℤ) (most : IsMostUpTo values (InRanges ranges) (length values) x) where
  abbrev p : ℕ
  p = spot.place.process

  inside : p < length c
  inside = place_inside c (event_of spot) event

  no_range : Range
  no_range = record { low = 0; high = 0 }

  -- the process of the spot is at 0 in the box
  own_zero : (count : ℕ) → InRanges ranges p count → count ≡ 0
  own_zero count may =
      omega (arith, (may no_range).1, (has.each p no_range inside).own_high refl)

  zero_own : InRanges ranges p 0
  zero_own = λ d. (
    (let e : (get_or ranges p d).low ≡ 0 = (has.each p d inside).own_low refl in omega (arith, e)),
    (let e : (get_or ranges p d).high ≡ 0 = (has.each p d inside).own_high refl in omega (arith, e)),
  )

  -- the greatest counts of the others, and that of the process
  abbrev counts : List ℕ
  counts = set most.counts p (own_count spot)

  many : length counts ≡ length c
  many = length-set most.counts p (own_count spot) ∙ most.many ∙ one_each

  at_spot : IsAt c spot counts
  at_spot = together c acyclic spot counts event many (λ q lt. can q lt (cases_eq q p))
    where
      can : (q : ℕ) → q < length c → (q ≡ p) ⊎ (q ≡ p → ⊥) → CanHave c spot q (get_or counts q 0)
      can q lt (inl same) = inl (
        same,
        ap (λ (i : ℕ). get_or counts i 0) same
            ∙ get_or-set_same most.counts p (own_count spot) 0 (omega (arith, inside, most.many, one_each)),
      )
      can q lt (inr other) =
          subst (CanHave c spot q) (sym (get_or-set_other most.counts p q (own_count spot) 0 other))
          ((((has.each q no_range lt).other other).each (get_or most.counts q 0)).0
          (most.each q (omega (arith, lt, one_each)) no_range))

  sum_is : sum_at values counts ≡ x -ℤ value_of values p 0 +ℤ value_of values p (own_count spot)
  sum_is =
      let e : sum_at values counts
      ≡ sum_at values most.counts -ℤ value_of values p (get_or most.counts p 0) +ℤ value_of values p (own_count spot) =
      sum_set values most.counts p (own_count spot) (omega (arith, inside, one_each))
      (omega (arith, inside, most.many, one_each)) in
      let f : value_of values p (get_or most.counts p 0) ≡ value_of values p 0 =
      ap (value_of values p)
      (own_zero (get_or most.counts p 0) (most.each p (omega (arith, inside, one_each)))) in
      omega (arith, ints, e, f, most.is)

  none_more : (other : List ℕ) → IsAt c spot other
      → sum_at values other ≤ℤ (x -ℤ value_of values p 0 +ℤ value_of values p (own_count spot))
  none_more other at =
      let fits : length other ≡ length c = (around c spot.after (event_of spot) other at).fits.one_each in
      let e : sum_at values (set other p 0)
      ≡ sum_at values other -ℤ value_of values p (get_or other p 0) +ℤ value_of values p 0 =
      sum_set values other p 0 (omega (arith, inside, one_each)) (omega (arith, inside, fits)) in
      let f : value_of values p (get_or other p 0) ≡ value_of values p (own_count spot) =
      ap (value_of values p) (own_of (apart c acyclic spot other event at p)) in
      let le : sum_at values (set other p 0) ≤ℤ x =
      most.most (set other p 0) (length-set other p 0 ∙ fits ∙ sym one_each)
      (λ q lt. may q (omega (arith, lt, one_each)) (cases_eq q p)) in
      omega (arith, ints, e, f, le)
    where
      own_of : CanHave c spot p (get_or other p 0) → get_or other p 0 ≡ own_count spot
      own_of (inl (same, is)) = is
      own_of (inr (other_one, is)) = absurd (other_one refl)

      may : (q : ℕ) → q < length c → (q ≡ p) ⊎ (q ≡ p → ⊥) → InRanges ranges q (get_or (set other p 0) q 0)
      may q lt (inl same) =
          subst (λ (i : ℕ). InRanges ranges i (get_or (set other p 0) i 0)) (sym same)
          (subst (InRanges ranges p)
          (sym (get_or-set_same other p 0 0
          (omega (arith, inside, (around c spot.after (event_of spot) other at).fits.one_each)))) zero_own)
      may q lt (inr apart_from) =
          subst (InRanges ranges q) (sym (get_or-set_other other p q 0 0 apart_from))
          (λ d. (((has.each q d lt).other apart_from).each (get_or other q 0)).1
          (apart c acyclic spot other event at q))

  -- the greatest sum at a spot by that of its box
  pub most_with_own : IsMost (IsAt c spot) values (x -ℤ value_of values p 0 +ℤ value_of values p (own_count spot))
  most_with_own = record { counts = counts; inside = at_spot; is = sum_is; most = none_more }

-- ---- at each spot

some_of : {A : Type 0} (xs : List A) → 0 < length xs → A
some_of [] lt = absurd (omega (arith, lt))
some_of (x ∷ xs) lt = x

module _ (c : Computation) (acyclic : HasNoCycle c) (spots : List Spot) (there : AreThere c spots)
    (boxes : List (Vec Range Global)) (numbers : List ℕ) (have : HaveBoxes c spots (length spots) boxes numbers)
    (values : List (Vec ℤ Global)) (are : AreValues c values) (sums : List ℤ)
    (of : AreBoxSums boxes values (length values) sums)
    (k : ℕ) (d : Spot) (lt : k < length spots) (x : ℤ) (is : x ≡ get_or sums (get_or numbers k 0) (pos 0)) where
  abbrev here : Vec Range Global
  here = some_of boxes (let n : get_or numbers k 0 < length boxes = have.there k lt in omega (arith, n))

  of_box : IsMostUpTo values (InRanges (get_or boxes (get_or numbers k 0) here).items) (length values) x
  of_box =
      subst
      (IsMostUpTo values (InRanges (get_or boxes (get_or numbers k 0) here).items) (length values)) (sym is)
      (of.each (get_or numbers k 0) here (have.there k lt))

  pub small_at_spot : unsigned_abs x ≤ length values * value_limit
  small_at_spot = of_box.small

  pub most_at_spot : (row : Vec ℤ Global) → row ≡ get_or values (get_or spots k d).place.process row
      → IsMost (IsAt c (get_or spots k d)) values
      (x -ℤ number_at row.items 0 +ℤ number_at row.items (own_count (get_or spots k d)))
  most_at_spot row at =
      subst (λ (t : ℤ × ℤ). IsMost (IsAt c (get_or spots k d)) values (x -ℤ t.0 +ℤ t.1))
      (λ i. (
        value_is values (get_or spots k d).place.process 0 row inside at i,
        value_is values (get_or spots k d).place.process (own_count (get_or spots k d)) row inside at i,
      ))
      (most_with_own c acyclic (get_or spots k d) (there k d lt) values are.one_each
      (get_or boxes (get_or numbers k 0) here).items (have.each k d here lt) x of_box)
    where
      inside : (get_or spots k d).place.process < length values
      inside =
          let n : (get_or spots k d).place.process < length c =
          place_inside c (event_of (get_or spots k d)) (there k d lt) in
          omega (arith, n, are.one_each)

-- what a row has is small
pub row_small : (c : Computation) (values : List (Vec ℤ Global)) (p count : ℕ) (row : Vec ℤ Global)
    → AreValues c values → p < length values → row ≡ get_or values p row
    → unsigned_abs (number_at row.items count) ≤ value_limit
row_small c values p count row are lt at =
    subst (λ (z : ℤ). unsigned_abs z ≤ value_limit) (value_is values p count row lt at) (are.small p count)

-- no process yet
pub no_sums : (boxes : List (Vec Range Global)) (values : List (Vec ℤ Global))
    → AreBoxSums boxes values 0 (replicate (length boxes) (pos 0))
no_sums boxes values = record {
  one_each = length-replicate (length boxes) (pos 0);
  each = λ i b lt.
      subst (IsMostUpTo values (InRanges (get_or boxes i b).items) 0)
      (sym (get_or-replicate (length boxes) i (pos 0) (pos 0) lt))
      (nothing_yet values (InRanges (get_or boxes i b).items));
}
