-- Truths by count, as the bits of words.
use Rattle.std.proofs.Common.{◌≡◌, ◌+◌, ◌*◌, ◌-◌, ◌/◌, ◌%◌, ◌<◌, ◌≤◌, ◌⊎◌, inl, inr, ℕ, Bool, true, false, List, length, get_or, set, replicate, refl, sym, ap, ◌∙◌, subst, arith}
use Rattle.std.proofs.lemmas.Bool.{cases_eq, cases_lt, true≢false}
use Rattle.std.proofs.lemmas.Grind.{get_or-set_at}
use Rattle.std.proofs.lemmas.List.{get_or_past, get_or-replicate, get_or-set_other, length-replicate}
use Rattle.std.specs.Prelude.{◌||◌}
use Rattle.walk_keys.specs.Words.{has_bit}
use Rattle.walk_keys.proofs.Truths.{zero_has_none}
use Rattle.wide_conjunctions.specs.Raises.{HasNoNext, IsNextGood}
use Rattle.wide_terms.specs.Truths.{truth_at}

or_true : (b : Bool) → (b || true) ≡ true
or_true true = refl
or_true false = refl

or_false : (b : Bool) → (b || false) ≡ b
or_false true = refl
or_false false = refl

-- ---- words

-- past the end nothing is true
pub past_end : (words : List ℕ) (number j : ℕ) → length words ≤ number → has_bit (get_or words number 0) j ≡ false
past_end words number j le =
    ap (λ (w : ℕ). has_bit w j) (get_or_past words number 0 le) ∙ zero_has_none j

-- nor in zeros
pub zeros_false : (n count : ℕ) → truth_at (replicate n 0) count ≡ false
zeros_false n count = go (cases_lt (count / 64) n)
  where
    go : (count / 64 < n) ⊎ (n ≤ count / 64) → truth_at (replicate n 0) count ≡ false
    go (inl lt) =
        ap (λ (w : ℕ). has_bit w (count % 64)) (get_or-replicate n (count / 64) 0 0 lt) ∙ zero_has_none (count % 64)
    go (inr le) =
        past_end (replicate n 0) (count / 64) (count % 64)
        (subst (λ (m : ℕ). m ≤ count / 64) (sym (length-replicate n 0)) le)

-- the truths of a word
pub truth_in : (words : List ℕ) (number j : ℕ) → j < 64
    → truth_at words (number * 64 + j) ≡ has_bit (get_or words number 0) j
truth_in words number j lt =
    let q : (number * 64 + j) / 64 ≡ number = omega arith in
    let r : (number * 64 + j) % 64 ≡ j = omega arith in
    ap (λ (n : ℕ). has_bit (get_or words n 0) ((number * 64 + j) % 64)) q
    ∙ ap (λ (n : ℕ). has_bit (get_or words number 0) n) r

-- n bits that are moved up
module _ (bits run low n : ℕ) (moved : (j : ℕ) → j + low < 64 → has_bit run (j + low) ≡ has_bit bits j) where
  at_moved : (j : ℕ) → low ≤ j → j < 64 → has_bit run j ≡ has_bit bits (j - low)
  at_moved j le lt =
      let e : j - low + low ≡ j = omega arith in
      sym (ap (has_bit run) e) ∙ moved (j - low) (omega arith)

  pub moved_inside : low + n ≤ 64 → ((j : ℕ) → j < n → has_bit bits j ≡ true) → (j : ℕ) → low ≤ j → j < low + n
      → has_bit run j ≡ true
  moved_inside few within j le lt = at_moved j le (omega arith) ∙ within (j - low) (omega arith)

  pub moved_outside : ((j : ℕ) → n ≤ j → has_bit bits j ≡ false) → ((j : ℕ) → j < low → has_bit run j ≡ false)
      → (j : ℕ) → j < 64 → (j < low) ⊎ (low + n ≤ j) → has_bit run j ≡ false
  moved_outside beyond below j lt (inl before) = below j before
  moved_outside beyond below j lt (inr after) = at_moved j (omega arith) lt ∙ beyond (j - low) (omega arith)

-- n counts of one word are made true, from a count on
module _ (old new : List ℕ) (from n word run : ℕ) (there : from / 64 < length old) (few : from % 64 + n ≤ 64)
    (is : new ≡ set old (from / 64) word)
    (bits : (j : ℕ) → has_bit word j ≡ (has_bit (get_or old (from / 64) 0) j || has_bit run j))
    (inside : (j : ℕ) → from % 64 ≤ j → j < from % 64 + n → has_bit run j ≡ true)
    (outside : (j : ℕ) → j < 64 → (j < from % 64) ⊎ (from % 64 + n ≤ j) → has_bit run j ≡ false) where
  before : ℕ → Bool
  before j = has_bit (get_or old (from / 64) 0) j

  in_word : (k : ℕ) → k / 64 ≡ from / 64 → truth_at new k ≡ has_bit word (k % 64)
  in_word k same =
      ap (λ (xs : List ℕ). truth_at xs k) is
      ∙ ap (λ (w : ℕ). has_bit w (k % 64)) (get_or-set_at old (from / 64) (k / 64) word 0 same there)

  pub part_inside : (k : ℕ) → from ≤ k → k < from + n → truth_at new k ≡ true
  unfolding before
  part_inside k le lt =
      in_word k (omega arith)
      ∙ (bits (k % 64)
      ∙ (ap (λ (b : Bool). before (k % 64) || b) (inside (k % 64) (omega arith) (omega arith))
      ∙ or_true (before (k % 64))))

  beside : (k : ℕ) → k / 64 ≡ from / 64 → (k < from) ⊎ (from + n ≤ k)
      → (k % 64 < from % 64) ⊎ (from % 64 + n ≤ k % 64)
  beside k same (inl lt) = inl (omega arith)
  beside k same (inr le) = inr (omega arith)

  pub part_outside : (k : ℕ) → (k < from) ⊎ (from + n ≤ k) → truth_at new k ≡ truth_at old k
  unfolding before
  part_outside k apart = go (cases_eq (k / 64) (from / 64))
    where
      go : (k / 64 ≡ from / 64) ⊎ (k / 64 ≡ from / 64 → ⊥) → truth_at new k ≡ truth_at old k
      go (inl same) =
          in_word k same
          ∙ (bits (k % 64)
          ∙ (ap (λ (b : Bool). before (k % 64) || b) (outside (k % 64) (omega arith) (beside k same apart))
          ∙ (or_false (before (k % 64))
          ∙ ap (λ (m : ℕ). has_bit (get_or old m 0) (k % 64)) (sym same))))
      go (inr other) =
          ap (λ (xs : List ℕ). truth_at xs k) is
          ∙ ap (λ (w : ℕ). has_bit w (k % 64)) (get_or-set_other old (from / 64) (k / 64) word 0 other)

-- ---- runs

-- n counts more are true
module _ (old mid new : List ℕ) (from at n : ℕ) (order : from ≤ at)
    (known : (k : ℕ) → from ≤ k → k < at → truth_at mid k ≡ true)
    (rest : (k : ℕ) → (k < from) ⊎ (at ≤ k) → truth_at mid k ≡ truth_at old k)
    (inside : (k : ℕ) → at ≤ k → k < at + n → truth_at new k ≡ true)
    (outside : (k : ℕ) → (k < at) ⊎ (at + n ≤ k) → truth_at new k ≡ truth_at mid k) where
  pub run_inside : (k : ℕ) → from ≤ k → k < at + n → truth_at new k ≡ true
  run_inside k le lt = go (cases_lt k at)
    where
      go : (k < at) ⊎ (at ≤ k) → truth_at new k ≡ true
      go (inl less) = outside k (inl less) ∙ known k le less
      go (inr ge) = inside k ge lt

  pub run_outside : (k : ℕ) → (k < from) ⊎ (at + n ≤ k) → truth_at new k ≡ truth_at old k
  run_outside k (inl lt) = outside k (inl (omega arith)) ∙ rest k (inl lt)
  run_outside k (inr le) = outside k (inr le) ∙ rest k (inr (omega arith))

-- ---- the next true one

-- The bits of a word are the truths of its counts, and they are moved down so that the first is that of one of them.
module _ (good : ℕ → Bool) (from at whole lower : ℕ)
    (is : (j : ℕ) → j < 64 → has_bit whole j ≡ good (at / 64 * 64 + j))
    (beyond : (j : ℕ) → 64 ≤ j → has_bit whole j ≡ false)
    (moved : (j : ℕ) → has_bit lower j ≡ has_bit whole (j + at % 64))
    (passed : (m : ℕ) → from ≤ m → m < at → good m ≡ false) where
  bit : (k : ℕ) → k + at % 64 < 64 → has_bit lower k ≡ good (at + k)
  bit k lt =
      let e : at / 64 * 64 + (k + at % 64) ≡ at + k = omega arith in
      moved k ∙ (is (k + at % 64) lt ∙ ap good e)

  -- none is good before the place of a bit, where none is set before it
  none_before : (d : ℕ) → d + at % 64 ≤ 64 → ((k : ℕ) → k < d → has_bit lower k ≡ false) → (m : ℕ) → from ≤ m
      → m < at + d → good m ≡ false
  none_before d within none m le lt = go (cases_lt m at)
    where
      go : (m < at) ⊎ (at ≤ m) → good m ≡ false
      go (inl less) = passed m le less
      go (inr ge) =
          let e : at + (m - at) ≡ m = omega arith in
          sym (ap good e) ∙ (sym (bit (m - at) (omega arith)) ∙ none (m - at) (omega arith))

  pub none_in_word : ((k : ℕ) → has_bit lower k ≡ false) → (m : ℕ) → from ≤ m → m < at + (64 - at % 64)
      → good m ≡ false
  none_in_word none m le lt = none_before (64 - at % 64) (omega arith) (λ k less. none k) m le lt

  within_word : (d : ℕ) → has_bit lower d ≡ true → d + at % 64 < 64
  within_word d set_there = go (cases_lt (d + at % 64) 64)
    where
      go : (d + at % 64 < 64) ⊎ (64 ≤ d + at % 64) → d + at % 64 < 64
      go (inl lt) = lt
      go (inr le) = absurd (true≢false (sym set_there ∙ (moved d ∙ beyond (d + at % 64) le)))

  pub is_next : (d : ℕ) → from ≤ at → has_bit lower d ≡ true → ((k : ℕ) → k < d → has_bit lower k ≡ false)
      → IsNextGood good from (at + d)
  is_next d order set_there none =
      let lt : d + at % 64 < 64 = within_word d set_there in (
        omega arith,
        sym (bit d lt) ∙ set_there,
        none_before d (omega arith) none,
      )

  pub is_past : (d last : ℕ) → has_bit lower d ≡ true → ((k : ℕ) → k < d → has_bit lower k ≡ false) → last < at + d
      → HasNoNext good from last
  is_past d last set_there none after m le most =
      let lt : d + at % 64 < 64 = within_word d set_there in none_before d (omega arith) none m le (omega arith)
