-- What a sum carries from bit to bit.
use Rattle.std.proofs.Common.{◌≡◌, ℕ, zero, suc, ◌+◌, ◌/◌, ◌%◌, ◌^◌, ◌<◌, Bool, true, false, ◌&&◌, ◌||◌, nat_eq, refl, sym, ap, ◌∙◌, subst, arith}
use Rattle.std.specs.Prelude.{bit_and, bit_or, bit_xor}
use Rattle.std.specs.Int.{bit_at}
use Rattle.std.proofs.lemmas.Bool.{false≢true}
use Rattle.std.proofs.lemmas.Nat.Bits.{bit_at-lt, bit_at_lowest, bit_at-suc, bit_at_xor, bit_at_cat_low}
use Rattle.walk_keys.specs.Words.{has_bit}
use Rattle.walk_keys.proofs.Truths.{has_both, has_either}

-- what comes to bit k of the sum of two words and c
abbrev carry : ℕ → ℕ → ℕ → ℕ → ℕ
carry o s c zero = c
carry o s c (suc k) = carry (o / 2) (s / 2) ((o % 2 + s % 2 + c) / 2) k

carry_small : (o s c k : ℕ) → c < 2 → carry o s c k < 2
carry_small o s c zero small = small
carry_small o s c (suc k) small = carry_small (o / 2) (s / 2) ((o % 2 + s % 2 + c) / 2) k (omega arith)

sum_bit : (o s c k : ℕ) → bit_at (o + s + c) k ≡ (bit_at o k + bit_at s k + carry o s c k) % 2
sum_bit o s c zero =
    let low : (o + s + c) % 2 ≡ (o % 2 + s % 2 + c) % 2 = omega arith in
    bit_at_lowest (o + s + c)
    ∙ (low ∙ (λ i. (sym (bit_at_lowest o) i + sym (bit_at_lowest s) i + c) % 2))
sum_bit o s c (suc k) =
    let half : (o + s + c) / 2 ≡ o / 2 + s / 2 + (o % 2 + s % 2 + c) / 2 = omega arith in
    let onward : ℕ = carry (o / 2) (s / 2) ((o % 2 + s % 2 + c) / 2) k in
    bit_at-suc (o + s + c) k
    ∙ (ap (λ (n : ℕ). bit_at n k) half
    ∙ (sum_bit (o / 2) (s / 2) ((o % 2 + s % 2 + c) / 2) k
    ∙ (λ i. (sym (bit_at-suc o k) i + sym (bit_at-suc s k) i + onward) % 2)))

carry_next : (o s c k : ℕ) → carry o s c (suc k) ≡ (bit_at o k + bit_at s k + carry o s c k) / 2
carry_next o s c zero = λ i. (sym (bit_at_lowest o) i + sym (bit_at_lowest s) i + c) / 2
carry_next o s c (suc k) =
    let onward : ℕ = carry (o / 2) (s / 2) ((o % 2 + s % 2 + c) / 2) k in
    carry_next (o / 2) (s / 2) ((o % 2 + s % 2 + c) / 2) k
    ∙ (λ i. (sym (bit_at-suc o k) i + sym (bit_at-suc s k) i + onward) / 2)

-- a sum that is cut off has the same bits
cut_bit : (n k : ℕ) → k < 64 → bit_at (n % 2 ^ 64) k ≡ bit_at n k
cut_bit n k within =
    sym (bit_at_cat_low (n / 2 ^ 64) 64 (n % 2 ^ 64) k within) ∙ ap (λ (m : ℕ). bit_at m k) (omega arith)

digit_left : (x y c : ℕ) → c < 2 → ((x + y) % 2 + (x + y + c) % 2) % 2 ≡ c
digit_left x y c small = omega (arith, small)

-- what the bits of the words and of their sum leave is what comes there
carried_bit : (o s k : ℕ) → k < 64 → bit_at (bit_xor (bit_xor o s) ((o + s) % 2 ^ 64)) k ≡ carry o s 0 k
carried_bit o s k within =
    let none : o + s ≡ o + s + 0 = omega arith in
    bit_at_xor (bit_xor o s) ((o + s) % 2 ^ 64) k
    ∙ ((λ i. (bit_at_xor o s k i
    + (cut_bit (o + s) k within ∙ (ap (λ (n : ℕ). bit_at n k) none ∙ sum_bit o s 0 k)) i) % 2)
    ∙ digit_left (bit_at o k) (bit_at s k) (carry o s 0 k) (carry_small o s 0 k (omega arith)))

next_digit : (o s c : ℕ) → o < 2 → s < 2 → c < 2 → (nat_eq s 1 ≡ true → nat_eq o 1 ≡ true)
    → nat_eq ((o + s + c) / 2) 1 ≡ (nat_eq o 1 && (nat_eq s 1 || nat_eq c 1))
next_digit zero zero zero a b d under = refl
next_digit zero zero (suc zero) a b d under = refl
next_digit zero (suc zero) c a b d under = absurd (false≢true (under refl))
next_digit (suc zero) zero zero a b d under = refl
next_digit (suc zero) zero (suc zero) a b d under = refl
next_digit (suc zero) (suc zero) zero a b d under = refl
next_digit (suc zero) (suc zero) (suc zero) a b d under = refl
next_digit (suc (suc o)) s c a b d under = absurd (omega (arith, a))
next_digit zero (suc (suc s)) c a b d under = absurd (omega (arith, b))
next_digit (suc zero) (suc (suc s)) c a b d under = absurd (omega (arith, b))
next_digit zero zero (suc (suc c)) a b d under = absurd (omega (arith, d))
next_digit (suc zero) zero (suc (suc c)) a b d under = absurd (omega (arith, d))
next_digit (suc zero) (suc zero) (suc (suc c)) a b d under = absurd (omega (arith, d))

-- ---- what is reached

absorb_low : (free first : Bool) → (free && ((free && first) || false)) ≡ (free && first)
absorb_low true true = refl
absorb_low true false = refl
absorb_low false first = refl

absorb : (free first before : Bool) → (free && ((free && first) || before)) ≡ (free && (first || before))
absorb true first before = refl
absorb false first before = refl

under_both : (seed free first : Bool) → seed ≡ (free && first) → seed ≡ true → free ≡ true
under_both seed true first is set = refl
under_both seed false first is set = absurd (false≢true (sym is ∙ set))

module _ (o f : ℕ) where
  abbrev pub s : ℕ
  s = bit_and o f

  abbrev pub result : ℕ
  result = bit_and o (bit_or s (bit_xor (bit_xor o s) ((o + s) % 2 ^ 64)))

  -- a bit is reached if it is free, and is a first one or has something come to it
  reached_bit : (k : ℕ) → k < 64 → has_bit result k ≡ (has_bit o k && (has_bit s k || nat_eq (carry o s 0 k) 1))
  reached_bit k within =
      has_both o (bit_or s (bit_xor (bit_xor o s) ((o + s) % 2 ^ 64))) k
      ∙ ap (λ (b : Bool). has_bit o k && b)
      (has_either s (bit_xor (bit_xor o s) ((o + s) % 2 ^ 64)) k
      ∙ ap (λ (d : ℕ). has_bit s k || nat_eq d 1) (carried_bit o s k within))

  pub reached_within : (k : ℕ) → has_bit o k ≡ false → has_bit result k ≡ false
  reached_within k none =
      has_both o (bit_or s (bit_xor (bit_xor o s) ((o + s) % 2 ^ 64))) k
      ∙ ap (λ (b : Bool). b && has_bit (bit_or s (bit_xor (bit_xor o s) ((o + s) % 2 ^ 64))) k) none

  pub reached_lowest : has_bit result 0 ≡ (has_bit o 0 && has_bit f 0)
  reached_lowest =
      reached_bit 0 (omega arith)
      ∙ (ap (λ (b : Bool). has_bit o 0 && (b || false)) (has_both o f 0) ∙ absorb_low (has_bit o 0) (has_bit f 0))

  comes : (k : ℕ) → k < 64 → nat_eq (carry o s 0 (suc k)) 1 ≡ has_bit result k
  comes k within =
      ap (λ (d : ℕ). nat_eq d 1) (carry_next o s 0 k)
      ∙ (next_digit (bit_at o k) (bit_at s k) (carry o s 0 k) (bit_at-lt o k) (bit_at-lt s k)
      (carry_small o s 0 k (omega arith))
      (under_both (has_bit s k) (has_bit o k) (has_bit f k) (has_both o f k))
      ∙ sym (reached_bit k within))

  pub reached_next : (k : ℕ) → k < 63
      → has_bit result (k + 1) ≡ (has_bit o (k + 1) && (has_bit f (k + 1) || has_bit result k))
  reached_next k within =
      let e : suc k ≡ k + 1 = omega arith in
      subst (λ (n : ℕ). has_bit result n ≡ (has_bit o n && (has_bit f n || has_bit result k))) e
      (reached_bit (suc k) (omega arith)
      ∙ ((λ i. has_bit o (suc k) && (has_both o f (suc k) i || comes k (omega arith) i))
      ∙ absorb (has_bit o (suc k)) (has_bit f (suc k)) (has_bit result k)))
