-- The good counts of a word.
use Rattle.std.proofs.Common.{◌≡◌, ℕ, ◌+◌, ◌-◌, ◌<◌, ◌≤◌, ◌≢◌, ◌⊎◌, inl, inr, Bool, true, false, ◌&&◌, ◌||◌, not, refl, sym, ap, ◌∙◌, subst, arith}
use Rattle.std.specs.Prelude.{Some}
use Rattle.std.proofs.lemmas.Bool.{cases_lt, true≢false}
use Rattle.walk_keys.specs.Words.{has_bit}
use Rattle.walk_keys.proofs.Truths.{zero_has_none}
use Rattle.wide_pairs.specs.Grids.{IsFilled, left_of}
use Rattle.wide_pairs.specs.Rows.{IsFirstTrue}
use Rattle.wide_pairs.proofs.Filled.{left_high, left_low}

with_true : (b : Bool) → (b && true) ≡ b
with_true true = refl
with_true false = refl

with_false : (b : Bool) → (b && false) ≡ false
with_false true = refl
with_false false = refl

-- The n lowest bits of a word are those of the counts from j on, and no count from low on before j is good.
module _ (good : ℕ → Bool) (word raw mask low j n : ℕ)
    (is : (k : ℕ) → has_bit word k ≡ (has_bit raw k && has_bit mask k))
    (inside : (k : ℕ) → k < n → has_bit mask k ≡ true) (beyond : (k : ℕ) → n ≤ k → has_bit mask k ≡ false)
    (raw_is : (k : ℕ) → k < n → has_bit raw k ≡ good (j + k))
    (before : (k : ℕ) → low ≤ k → k < j → good k ≡ false) where
  bit : (k : ℕ) → k < n → has_bit word k ≡ good (j + k)
  bit k lt =
      is k ∙ (ap (λ (b : Bool). has_bit raw k && b) (inside k lt) ∙ (with_true (has_bit raw k) ∙ raw_is k lt))

  -- none is good before the place of a bit, where none is set before it
  none_before : (d : ℕ) → d ≤ n → ((k : ℕ) → k < d → has_bit word k ≡ false) → (k : ℕ) → low ≤ k → k < j + d
      → good k ≡ false
  none_before d within none k le lt = go (cases_lt k j)
    where
      go : (k < j) ⊎ (j ≤ k) → good k ≡ false
      go (inl less) = before k le less
      go (inr ge) =
          let e : j + (k - j) ≡ k = omega arith in
          subst (λ (m : ℕ). good m ≡ false) e (sym (bit (k - j) (omega arith)) ∙ none (k - j) (omega arith))

  pub none_more : ((k : ℕ) → has_bit word k ≡ false) → (k : ℕ) → low ≤ k → k < j + n → good k ≡ false
  none_more none = none_before n (omega arith) (λ k lt. none k)

  within : (d : ℕ) → has_bit word d ≡ true → d < n
  within d set = go (cases_lt d n)
    where
      go : (d < n) ⊎ (n ≤ d) → d < n
      go (inl lt) = lt
      go (inr le) =
          absurd
          (true≢false
          (sym set ∙ (is d ∙ (ap (λ (b : Bool). has_bit raw d && b) (beyond d le) ∙ with_false (has_bit raw d)))))

  pub found : (end d : ℕ) → low ≤ j → j + n ≤ end → has_bit word d ≡ true
      → ((k : ℕ) → k < d → has_bit word k ≡ false) → IsFirstTrue good low end (Some (j + d))
  found end d from room set none =
      let lt : d < n = within d set in (
        omega arith,
        omega arith,
        sym (bit d lt) ∙ set,
        none_before d (omega arith) none,
      )

-- what is filled by one test is filled by another that is the same there
pub filled_by : (old new above has : ℕ → Bool) (start : Bool) (low end : ℕ)
    → ((j : ℕ) → low ≤ j → j < end → old j ≡ new j) → IsFilled old above has start low end
    → IsFilled new above has start low end
filled_by old new above has start low end same filled = record {
  inside = λ j le lt.
      filled.inside j le lt
      ∙ ap (λ (b : Bool). not b && (above j || left_of has start low j)) (same j le lt);
  outside = filled.outside;
}

-- where there are no counts, none is had
pub none_filled : (good above : ℕ → Bool) (start : Bool) (low end : ℕ) → low ≡ end
    → IsFilled good above (has_bit 0) start low end
none_filled good above start low end same = record {
  inside = λ j from lt. absurd (omega (arith, same, from, lt));
  outside = λ j where_. zero_has_none j;
}

-- a word that is moved up to where its counts begin
pub moved_up : (good : ℕ → Bool) (word moved base from to : ℕ) → to ≤ 64
    → ((k : ℕ) → k < to - from → has_bit word k ≡ good (base + from + k))
    → ((k : ℕ) → k + from < 64 → has_bit moved (k + from) ≡ has_bit word k)
    → (d : ℕ) → from ≤ d → d < to → has_bit moved d ≡ good (base + d)
moved_up good word moved base from to within by_word moves d le lt =
    let e : d - from + from ≡ d = omega arith in
    let f : base + from + (d - from) ≡ base + d = omega arith in
    sym (ap (has_bit moved) e)
    ∙ (moves (d - from) (omega arith) ∙ (by_word (d - from) (omega arith) ∙ ap good f))

or_false : (b : Bool) → (b || false) ≡ b
or_false true = refl
or_false false = refl

either_way : (a b : Bool) → (a || b) ≡ (b || a)
either_way true true = refl
either_way true false = refl
either_way false true = refl
either_way false false = refl

-- what is reached of the counts that aren't good, where a start is a first one too
module _ (good above has free first : ℕ → Bool) (start : Bool) (from to : ℕ) (order : from < to) (most : to ≤ 64)
    (free_is : (j : ℕ) → from ≤ j → j < to → free j ≡ not (good j))
    (not_free : (j : ℕ) → (j < from) ⊎ (to ≤ j) → free j ≡ false)
    (here : first from ≡ (start || above from)) (others : (j : ℕ) → j ≢ from → first j ≡ above j)
    (only_free : (j : ℕ) → free j ≡ false → has j ≡ false) (lowest : has 0 ≡ (free 0 && first 0))
    (next : (j : ℕ) → j < 63 → has (j + 1) ≡ (free (j + 1) && (first (j + 1) || has j))) where
  at_next : (j : ℕ) → 0 < j → j < 64 → has j ≡ (free j && (first j || has (j - 1)))
  at_next j some lt =
      let e : j - 1 + 1 ≡ j = omega (arith, some) in
      subst (λ (n : ℕ). has n ≡ (free n && (first n || has (j - 1)))) e (next (j - 1) (omega (arith, lt)))

  at_from : has from ≡ (free from && first from)
  at_from = go (cases_lt 0 from)
    where
      go : (0 < from) ⊎ (from ≤ 0) → has from ≡ (free from && first from)
      go (inl some) =
          at_next from some (omega (arith, order, most))
          ∙ ap (λ (b : Bool). free from && b)
          (ap (λ (b : Bool). first from || b) (only_free (from - 1) (not_free (from - 1) (inl (omega (arith, some)))))
          ∙ or_false (first from))
      go (inr none) =
          let e : 0 ≡ from = omega (arith, none) in
          subst (λ (n : ℕ). has n ≡ (free n && first n)) e lowest

  inside_from : has from ≡ (not (good from) && (above from || left_of has start from from))
  inside_from =
      at_from
      ∙ (λ i. free_is from (omega arith) order i
      && (here ∙ (either_way start (above from)
      ∙ ap (λ (b : Bool). above from || b) (sym (left_low has start from from refl)))) i)

  inside_after : (j : ℕ) → from < j → j < to → has j ≡ (not (good j) && (above j || left_of has start from j))
  inside_after j after lt =
      at_next j (omega (arith, after)) (omega (arith, lt, most))
      ∙ (λ i. free_is j (omega (arith, after)) lt i
      && (others j (λ e. omega (arith, e, after)) i || sym (left_high has start from j after) i))

  pub filled_reached : IsFilled good above has start from to
  filled_reached = record { inside = inside; outside = λ j where_. only_free j (not_free j where_) }
    where
      inside : (j : ℕ) → from ≤ j → j < to → has j ≡ (not (good j) && (above j || left_of has start from j))
      inside j le lt = go (cases_lt from j)
        where
          go : (from < j) ⊎ (j ≤ from) → has j ≡ (not (good j) && (above j || left_of has start from j))
          go (inl after) = inside_after j after lt
          go (inr low) =
              let e : from ≡ j = omega (arith, le, low) in
              subst (λ (n : ℕ). has n ≡ (not (good n) && (above n || left_of has start from n))) e inside_from

-- which counts of a span aren't good
module _ (top bottom span good free : ℕ → Bool) (from to : ℕ)
    (top_within : (j : ℕ) → j < to → top j ≡ true) (top_beyond : (j : ℕ) → to ≤ j → top j ≡ false)
    (bottom_within : (j : ℕ) → j < from → bottom j ≡ true) (bottom_beyond : (j : ℕ) → from ≤ j → bottom j ≡ false)
    (span_is : (j : ℕ) → span j ≡ (top j && not (bottom j))) (is : (j : ℕ) → free j ≡ (span j && not (good j)))
  where
    pub free_inside : (j : ℕ) → from ≤ j → j < to → free j ≡ not (good j)
    free_inside j le lt =
        is j
        ∙ ap (λ (b : Bool). b && not (good j))
        (span_is j ∙ (λ i. top_within j lt i && not (bottom_beyond j le i)))

    pub free_outside : (j : ℕ) → (j < from) ⊎ (to ≤ j) → free j ≡ false
    free_outside j (inl low) =
        is j
        ∙ ap (λ (b : Bool). b && not (good j))
        (span_is j ∙ (ap (λ (b : Bool). top j && not b) (bottom_within j low) ∙ with_false (top j)))
    free_outside j (inr high) =
        is j
        ∙ ap (λ (b : Bool). b && not (good j))
        (span_is j ∙ ap (λ (b : Bool). b && not (bottom j)) (top_beyond j high))
