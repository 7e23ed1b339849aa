-- Rows of bits, one bit and one word more at a time.
use Rattle.std.proofs.Common.{◌≡◌, ◌≢◌, ℕ, ◌+◌, ◌-◌, ◌*◌, ◌/◌, ◌%◌, ◌<◌, ◌≤◌, ◌⊎◌, inl, inr, min, max, Bool, true, false, cond, eqb, leb, not, ◌&&◌, ◌||◌, List, [], ◌∷◌, ◌++◌, length, length-append, get_or, refl, sym, ap, ◌∙◌, arith}
use Rattle.std.proofs.lemmas.Bool.{cases_lt, eq-eqb, le-leb}
use Rattle.std.proofs.lemmas.Bool.Decides.{eqb_tells, leb_tells}
use Rattle.std.proofs.lemmas.List.{get_or-append_right, get_or_append_left, get_or_past}
use Rattle.walk_keys.specs.Words.{has_bit}
use Rattle.walk_keys.proofs.Truths.{zero_has_none}
use Rattle.wide_pairs.specs.Grids.{IsFilled, left_of, row_has, word_at}

-- ---- what is before

pub left_low : (has : ℕ → Bool) (start : Bool) (low j : ℕ) → j ≡ low → left_of has start low j ≡ start
left_low has start low j same = ap (λ (b : Bool). cond b start (has (j - 1))) (eq-eqb j low same)

pub left_high : (has : ℕ → Bool) (start : Bool) (low j : ℕ) → low < j → left_of has start low j ≡ has (j - 1)
left_high has start low j less = go (eqb_tells j low)
  where
    go : ((eqb j low ≡ true) × (j ≡ low)) ⊎ ((eqb j low ≡ false) × (j ≢ low))
        → left_of has start low j ≡ has (j - 1)
    go (inl (e, same)) = absurd (omega arith)
    go (inr (e, apart)) = ap (λ (b : Bool). cond b start (has (j - 1))) e

-- it stays where those before stay
left_same : (old new : ℕ → Bool) (start : Bool) (low j : ℕ) → low ≤ j → (low < j → new (j - 1) ≡ old (j - 1))
    → left_of old start low j ≡ left_of new start low j
left_same old new start low j le same = go (cases_lt low j)
  where
    go : (low < j) ⊎ (j ≤ low) → left_of old start low j ≡ left_of new start low j
    go (inl less) = left_high old start low j less ∙ (sym (same less) ∙ sym (left_high new start low j less))
    go (inr ge) = left_low old start low j (omega arith) ∙ sym (left_low new start low j (omega arith))

-- ---- the words of a row

word_there : (first : ℕ) (words : List ℕ) (n : ℕ) → first ≤ n → word_at first words n ≡ get_or words (n - first) 0
word_there first words n le = ap (λ (b : Bool). cond b (get_or words (n - first) 0) 0) (le-leb first n le)

word_none : (first : ℕ) (words : List ℕ) (n : ℕ) → n < first → word_at first words n ≡ 0
word_none first words n lt = go (leb_tells first n)
  where
    go : ((leb first n ≡ true) × (first ≤ n)) ⊎ ((leb first n ≡ false) × (n < first)) → word_at first words n ≡ 0
    go (inl (e, le)) = absurd (omega arith)
    go (inr (e, less)) = ap (λ (b : Bool). cond b (get_or words (n - first) 0) 0) e

-- there is no word past the last one
pub word_past : (first : ℕ) (words : List ℕ) (n : ℕ) → first + length words ≤ n → word_at first words n ≡ 0
word_past first words n le =
    word_there first words n (omega arith) ∙ get_or_past words (n - first) 0 (omega arith)

pub none_past : (first : ℕ) (words : List ℕ) (number j : ℕ) → first + length words ≤ number → number * 64 ≤ j
    → row_has first words j ≡ false
none_past first words number j le low =
    ap (λ (w : ℕ). has_bit w (j % 64)) (word_past first words (j / 64) (omega arith)) ∙ zero_has_none (j % 64)

module _ (first number word : ℕ) (old new : List ℕ) (pushed : new ≡ old ++ word ∷ [])
    (at : first + length old ≡ number) where
  pub word_kept : (n : ℕ) → n < number → word_at first new n ≡ word_at first old n
  word_kept n lt = go (cases_lt n first)
    where
      go : (n < first) ⊎ (first ≤ n) → word_at first new n ≡ word_at first old n
      go (inl less) = word_none first new n less ∙ sym (word_none first old n less)
      go (inr le) =
          word_there first new n le
          ∙ (ap (λ (xs : List ℕ). get_or xs (n - first) 0) pushed
          ∙ (get_or_append_left old (word ∷ []) 0 (n - first) (omega arith) ∙ sym (word_there first old n le)))

  pub word_pushed : word_at first new number ≡ word
  word_pushed =
      let none : number - first - length old ≡ 0 = omega arith in
      word_there first new number (omega arith)
      ∙ (ap (λ (xs : List ℕ). get_or xs (number - first) 0) pushed
      ∙ (get_or-append_right old (word ∷ []) (length old) (number - first) 0 refl (omega arith)
      ∙ ap (λ (n : ℕ). get_or (word ∷ []) n 0) none))

  pub bit_kept : (j : ℕ) → j < number * 64 → row_has first new j ≡ row_has first old j
  bit_kept j lt = ap (λ (w : ℕ). has_bit w (j % 64)) (word_kept (j / 64) (omega arith))

  pub bit_pushed : (j : ℕ) → number * 64 ≤ j → j < number * 64 + 64
      → row_has first new j ≡ has_bit word (j - number * 64)
  bit_pushed j low high =
      let q : j / 64 ≡ number = omega arith in
      let r : j % 64 ≡ j - number * 64 = omega arith in
      rw (q, r) (ap (λ (w : ℕ). has_bit w (j - number * 64)) word_pushed)

pub words_more : (first number word : ℕ) (old new : List ℕ) → new ≡ old ++ word ∷ [] → first + length old ≡ number
    → first + length new ≡ number + 1
words_more first number word old new pushed at =
    let l : length new ≡ length old + 1 = ap length pushed ∙ length-append old (word ∷ []) in omega arith

-- the bits of a word are the row's
pub word_above : (first : ℕ) (words : List ℕ) (n up : ℕ) → up ≡ word_at first words n → (d : ℕ) → d < 64
    → has_bit up d ≡ row_has first words (n * 64 + d)
word_above first words n up is d lt =
    let q : (n * 64 + d) / 64 ≡ n = omega arith in
    let r : (n * 64 + d) % 64 ≡ d = omega arith in
    rw (q, r) (ap (λ (w : ℕ). has_bit w d) is)

-- ---- one word more

-- whether the count before the first of a word is had, or the start before the lowest
abbrev pub before_word : ℕ → List ℕ → Bool → ℕ → Bool
before_word first words start number = cond (eqb number first) start (row_has first words (number * 64 - 1))

module _ (good above : ℕ → Bool) (first number word : ℕ) (old new : List ℕ) (start left : Bool) (low end : ℕ)
    (pushed : new ≡ old ++ word ∷ []) (at : first + length old ≡ number) (begins : first ≡ low / 64)
    (up : ℕ) (above_is : (d : ℕ) → d < 64 → has_bit up d ≡ above (number * 64 + d))
    (left_is : left ≡ before_word first old start number)
    (filled : IsFilled good above (row_has first old) start low (min end (number * 64)))
    (by_word : IsFilled (λ d. good (number * 64 + d)) (has_bit up) (has_bit word) left
    (max low (number * 64) - number * 64) (min end (number * 64 + 64) - number * 64)) where
  kept : (j : ℕ) → j < number * 64 → row_has first new j ≡ row_has first old j
  kept j lt = bit_kept first number word old new pushed at j lt

  fresh : (j : ℕ) → number * 64 ≤ j → j < number * 64 + 64 → row_has first new j ≡ has_bit word (j - number * 64)
  fresh j low_j high = bit_pushed first number word old new pushed at j low_j high

  -- what is before a bit of the word is before it in the row
  same_left : (j : ℕ) → low ≤ j → number * 64 ≤ j → j < number * 64 + 64
      → left_of (has_bit word) left (max low (number * 64) - number * 64) (j - number * 64)
      ≡ left_of (row_has first new) start low j
  same_left j from low_j high = go (cases_lt low j) (cases_lt (number * 64) j)
    where
      go : (low < j) ⊎ (j ≤ low) → (number * 64 < j) ⊎ (j ≤ number * 64)
          → left_of (has_bit word) left (max low (number * 64) - number * 64) (j - number * 64)
          ≡ left_of (row_has first new) start low j
      go (inr le) x =
          let e : number ≡ first = omega arith in
          left_low (has_bit word) left (max low (number * 64) - number * 64) (j - number * 64) (omega arith)
          ∙ (left_is
          ∙ (ap (λ (b : Bool). cond b start (row_has first old (number * 64 - 1))) (eq-eqb number first e)
          ∙ sym (left_low (row_has first new) start low j (omega arith))))
      go (inl less) (inl after) =
          let e : j - number * 64 - 1 ≡ j - 1 - number * 64 = omega arith in
          left_high (has_bit word) left (max low (number * 64) - number * 64) (j - number * 64) (omega arith)
          ∙ (ap (has_bit word) e
          ∙ (sym (fresh (j - 1) (omega arith) (omega arith))
          ∙ sym (left_high (row_has first new) start low j less)))
      go (inl less) (inr le) =
          let e : number * 64 ≡ j = omega arith in
          left_low (has_bit word) left (max low (number * 64) - number * 64) (j - number * 64) (omega arith)
          ∙ (left_is
          ∙ (between (eqb_tells number first)
          ∙ (sym (kept (number * 64 - 1) (omega arith))
          ∙ (ap (λ (n : ℕ). row_has first new (n - 1)) e
          ∙ sym (left_high (row_has first new) start low j less)))))
        where
          between : ((eqb number first ≡ true) × (number ≡ first)) ⊎ ((eqb number first ≡ false) × (number ≢ first))
              → before_word first old start number ≡ row_has first old (number * 64 - 1)
          between (inl (e, same)) = absurd (omega arith)
          between (inr (e, apart)) =
              ap (λ (b : Bool). cond b start (row_has first old (number * 64 - 1))) e

  pub word_more : IsFilled good above (row_has first new) start low (min end ((number + 1) * 64))
  word_more = record { inside = inside; outside = outside }
    where
      inside : (j : ℕ) → low ≤ j → j < min end ((number + 1) * 64)
          → row_has first new j ≡ (not (good j) && (above j || left_of (row_has first new) start low j))
      inside j from lt = go (cases_lt j (number * 64))
        where
          go : (j < number * 64) ⊎ (number * 64 ≤ j)
              → row_has first new j ≡ (not (good j) && (above j || left_of (row_has first new) start low j))
          go (inl less) =
              kept j less
              ∙ (filled.inside j from (omega arith)
              ∙ ap (λ (b : Bool). not (good j) && (above j || b))
              (left_same (row_has first old) (row_has first new) start low j from
              (λ some. kept (j - 1) (omega arith))))
          go (inr le) =
              let high : j < number * 64 + 64 = omega arith in
              let e : number * 64 + (j - number * 64) ≡ j = omega arith in
              fresh j le high
              ∙ (by_word.inside (j - number * 64) (omega arith) (omega arith)
              ∙ (ap (λ (b : Bool). not (good (number * 64 + (j - number * 64))) && (has_bit up (j - number * 64) || b))
              (same_left j from le high)
              ∙ (ap (λ (b : Bool). not (good (number * 64 + (j - number * 64)))
              && (b || left_of (row_has first new) start low j)) (above_is (j - number * 64) (omega arith))
              ∙ ap (λ (n : ℕ). not (good n) && (above n || left_of (row_has first new) start low j)) e)))

      outside : (j : ℕ) → (j < low) ⊎ (min end ((number + 1) * 64) ≤ j) → row_has first new j ≡ false
      outside j where_ = go (cases_lt j (number * 64)) (cases_lt j (number * 64 + 64)) where_
        where
          go : (j < number * 64) ⊎ (number * 64 ≤ j) → (j < number * 64 + 64) ⊎ (number * 64 + 64 ≤ j)
              → (j < low) ⊎ (min end ((number + 1) * 64) ≤ j) → row_has first new j ≡ false
          go (inl less) x (inl under) = kept j less ∙ filled.outside j (inl under)
          go (inl less) x (inr past) = kept j less ∙ filled.outside j (inr (omega arith))
          go (inr le) (inl high) (inl under) =
              fresh j le high ∙ by_word.outside (j - number * 64) (inl (omega arith))
          go (inr le) (inl high) (inr past) =
              fresh j le high ∙ by_word.outside (j - number * 64) (inr (omega arith))
          go (inr le) (inr high) x =
              none_past first new (number + 1) j
              (let l : length new ≡ length old + 1 = ap length pushed ∙ length-append old (word ∷ []) in omega arith)
              (omega arith)

  -- and what is before the next word
  pub left_more : low < (number + 1) * 64 → has_bit word 63 ≡ before_word first new start (number + 1)
  left_more some = go (eqb_tells (number + 1) first)
    where
      go : ((eqb (number + 1) first ≡ true) × (number + 1 ≡ first))
          ⊎ ((eqb (number + 1) first ≡ false) × (number + 1 ≢ first))
          → has_bit word 63 ≡ before_word first new start (number + 1)
      go (inl (e, same)) = absurd (omega arith)
      go (inr (e, apart)) =
          let d : (number + 1) * 64 - 1 - number * 64 ≡ 63 = omega arith in
          sym (ap (has_bit word) d)
          ∙ (sym (fresh ((number + 1) * 64 - 1) (omega arith) (omega arith))
          ∙ sym (ap (λ (b : Bool). cond b start (row_has first new ((number + 1) * 64 - 1))) e))
