-- Bits as truths: what the operations on words make of them.
use Rattle.std.proofs.Common.{◌≡◌, ◌∙◌, refl, ap, sym, arith, ℕ, ◌+◌, ◌*◌, ◌/◌, ◌%◌, ◌^◌, ◌<◌, min, max, zero, suc, true, false, not, ◌&&◌, ◌||◌, cond, nat_eq}
use Rattle.std.specs.Prelude.{bit_and, bit_or, bit_xor}
use Rattle.std.specs.Int.{bit_at}
use Rattle.std.proofs.lemmas.Nat.Bits.{bit_at-lt, bit_at_and, bit_at_or, bit_at_xor, bit_at-suc, bit_at_lowest, bit_at_cat_low, bit_at_cat_high, bit_at-zero, same_from_bits}
use Rattle.std.proofs.lemmas.Nat.{pow_pos}
use Rattle.std.proofs.Math.Nat.{pow-suc}
use Rattle.std.proofs.lemmas.Bool.{true≢false}
use Rattle.std.specs.Int.Count.{ones, ones_step, ones-le}
use Rattle.walk_keys.specs.Words.{has_bit, set_below}

-- ---- one bit

either_digit : (x y : ℕ) → x < 2 → y < 2 → nat_eq (max x y) 1 ≡ (nat_eq x 1 || nat_eq y 1)
either_digit zero zero a b = refl
either_digit zero (suc zero) a b = refl
either_digit (suc zero) zero a b = refl
either_digit (suc zero) (suc zero) a b = refl
either_digit (suc (suc x)) y a b = absurd (omega arith)
either_digit zero (suc (suc y)) a b = absurd (omega arith)
either_digit (suc zero) (suc (suc y)) a b = absurd (omega arith)

both_digit : (x y : ℕ) → x < 2 → y < 2 → nat_eq (min x y) 1 ≡ (nat_eq x 1 && nat_eq y 1)
both_digit zero zero a b = refl
both_digit zero (suc zero) a b = refl
both_digit (suc zero) zero a b = refl
both_digit (suc zero) (suc zero) a b = refl
both_digit (suc (suc x)) y a b = absurd (omega arith)
both_digit zero (suc (suc y)) a b = absurd (omega arith)
both_digit (suc zero) (suc (suc y)) a b = absurd (omega arith)

without_digit : (x y : ℕ) → x < 2 → y < 2 → nat_eq (min x ((x + y) % 2)) 1 ≡ (nat_eq x 1 && not (nat_eq y 1))
without_digit zero zero a b = refl
without_digit zero (suc zero) a b = refl
without_digit (suc zero) zero a b = refl
without_digit (suc zero) (suc zero) a b = refl
without_digit (suc (suc x)) y a b = absurd (omega arith)
without_digit zero (suc (suc y)) a b = absurd (omega arith)
without_digit (suc zero) (suc (suc y)) a b = absurd (omega arith)

pub has_either : (a b j : ℕ) → has_bit (bit_or a b) j ≡ (has_bit a j || has_bit b j)
has_either a b j =
    ap (λ d. nat_eq d 1) (bit_at_or a b j)
    ∙ either_digit (bit_at a j) (bit_at b j) (bit_at-lt a j) (bit_at-lt b j)

pub has_both : (a b j : ℕ) → has_bit (bit_and a b) j ≡ (has_bit a j && has_bit b j)
has_both a b j =
    ap (λ d. nat_eq d 1) (bit_at_and a b j) ∙ both_digit (bit_at a j) (bit_at b j) (bit_at-lt a j) (bit_at-lt b j)

pub has_without : (a b j : ℕ) → has_bit (bit_and a (bit_xor a b)) j ≡ (has_bit a j && not (has_bit b j))
has_without a b j =
    ap (λ d. nat_eq d 1) (bit_at_and a (bit_xor a b) j ∙ ap (min (bit_at a j)) (bit_at_xor a b j))
    ∙ without_digit (bit_at a j) (bit_at b j) (bit_at-lt a j) (bit_at-lt b j)

pub is_set : (n j : ℕ) → bit_at n j ≡ 1 → has_bit n j ≡ true
is_set n j one = ap (λ d. nat_eq d 1) one

pub is_unset : (n j : ℕ) → bit_at n j ≡ 0 → has_bit n j ≡ false
is_unset n j none = ap (λ d. nat_eq d 1) none

pub same_bit : (m n i j : ℕ) → bit_at m i ≡ bit_at n j → has_bit m i ≡ has_bit n j
same_bit m n i j same = ap (λ d. nat_eq d 1) same

unset_digit : (x : ℕ) → x < 2 → nat_eq x 1 ≡ false → x ≡ 0
unset_digit zero below none = refl
unset_digit (suc zero) below none = absurd (true≢false none)
unset_digit (suc (suc x)) below none = absurd (omega arith)

-- ---- words

-- a word that has no bit set is 0
pub none_is_zero : (n : ℕ) → ((j : ℕ) → has_bit n j ≡ false) → n ≡ 0
none_is_zero n none =
    same_from_bits n 0 (λ j. unset_digit (bit_at n j) (bit_at-lt n j) (none j) ∙ sym (bit_at-zero j))

pub zero_has_none : (j : ℕ) → has_bit 0 j ≡ false
zero_has_none j = is_unset 0 j (bit_at-zero j)

-- what is moved up by less than a word's length
module _ (word by : ℕ) where
  whole : ℕ
  whole = word * 2 ^ by

  pub low_bits : (j : ℕ) → j < 64 → bit_at (word * 2 ^ by % 2 ^ 64) j ≡ bit_at (word * 2 ^ by) j
  low_bits j within =
      sym (bit_at_cat_low (word * 2 ^ by / 2 ^ 64) 64 (word * 2 ^ by % 2 ^ 64) j within)
      ∙ ap (λ n. bit_at n j) (omega arith)

  pub up_below : (j : ℕ) → by < 64 → j < by → bit_at (word * 2 ^ by % 2 ^ 64) j ≡ 0
  up_below j small below =
      low_bits j (omega arith) ∙ ap (λ n. bit_at n j) (omega arith) ∙ bit_at_cat_low word by 0 j below ∙ bit_at-zero j

  pub up_moved : (j : ℕ) → j + by < 64 → bit_at (word * 2 ^ by % 2 ^ 64) (j + by) ≡ bit_at word j
  up_moved j small =
      low_bits (j + by) small ∙ ap (λ n. bit_at n (j + by)) (omega arith)
      ∙ bit_at_cat_high word by 0 (j + by) (pow_pos by) (omega arith) ∙ ap (bit_at word) (omega arith)

-- ---- how many are set

low_first : (n k : ℕ) → set_below n (suc k) ≡ cond (has_bit n 0) 1 0 + set_below (n / 2) k
low_first n zero = omega arith
low_first n (suc k) =
    ap (λ m. m + cond (has_bit n (suc k)) 1 0) (low_first n k)
    ∙ ap (λ b. cond (has_bit n 0) 1 0 + set_below (n / 2) k + cond b 1 0)
    (same_bit n (n / 2) (suc k) k (bit_at-suc n k))
    ∙ omega arith

lowest_digit : (x : ℕ) → x < 2 → cond (nat_eq x 1) 1 0 ≡ x
lowest_digit zero below = refl
lowest_digit (suc zero) below = refl
lowest_digit (suc (suc x)) below = absurd (omega arith)

pub ones_are_set : (k n : ℕ) → n < 2 ^ k → ones n ≡ set_below n k
ones_are_set zero n small = omega (arith, ones-le 0 n small)
ones_are_set (suc k) n small =
    ones_step n
    ∙ (λ i. sym (lowest_digit (bit_at n 0) (bit_at-lt n 0) ∙ bit_at_lowest n) i
    + ones_are_set k (n / 2) (omega (arith, pow-suc 2 k)) i)
    ∙ sym (low_first n k)
