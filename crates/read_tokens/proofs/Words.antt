-- What the operations on a word of eight bytes say of each byte.
use Rattle.std.proofs.Common.{◌≡◌, ℕ, zero, suc, ◌+◌, ◌*◌, ◌<◌, ◌≤◌, Bool, true, false, cond, ◌||◌, ◌==◌, nat_lt, ◌/◌, List, length, get_or, take, refl, ap, ◌∙◌, arith}
use Rattle.std.proofs.lemmas.Bool.{eqb-false, eqb-true, ltb-false}
use Rattle.std.specs.Prelude.{All, bit_and, bit_or, bit_xor}
use Rattle.std.specs.Int.{trailing_zeros, w64}
use Rattle.core.specs.Slice.Scan.{digits_from, flag_word}
use Rattle.core.proofs.slice.Flagged.{Bytes, flags, or_Bytes, xor_Bytes}
use Rattle.std.proofs.lemmas.Nat.{and_block, and_le_r, or_lt, xor_lt}
use Rattle.read_tokens.specs.Runs.{IsPlain}
use Rattle.read_tokens.specs.Words.{is_special}
use Rattle.read_tokens.proofs.Digits.{below}
use Rattle.read_tokens.proofs.Lexing.{plain_more}

and_by_byte : (f g : ℕ → ℕ) → Bytes f → Bytes g → (n k : ℕ)
    → bit_and (digits_from f k n) (digits_from g k n) ≡ digits_from (λ j. bit_and (f j) (g j)) k n
and_by_byte f g a b zero k = refl
and_by_byte f g a b (suc n) k =
    let x : f k + 256 * digits_from f (suc k) n ≡ digits_from f (suc k) n * 256 + f k = omega arith in
    let y : g k + 256 * digits_from g (suc k) n ≡ digits_from g (suc k) n * 256 + g k = omega arith in
    (λ i. bit_and (x i) (y i)) ∙ and_block 8 _ _ _ _ (a k) (b k) ∙ omega (arith, and_by_byte f g a b n (suc k))

and_bytes : (f g : ℕ → ℕ) → Bytes f → Bytes g
    → bit_and (digits_from f 0 8) (digits_from g 0 8) ≡ digits_from (λ j. bit_and (f j) (g j)) 0 8
and_bytes f g a b = and_by_byte f g a b 8 0

-- ---- one byte

abbrev differs : ℕ → ℕ → ℕ
differs c x = bit_and (bit_xor x c) 127 + 127

abbrev mark : ℕ → ℕ
mark x =
    bit_xor (bit_and (bit_or (bit_and (bit_and (differs 34 x) (differs 92 x)) (bit_and x 127 + 96)) x) 128) 128

mark_is : (x : ℕ) → x < 256 → mark x ≡ cond (is_special x) 128 0
mark_is x small = eqb-true _ _ (below (λ y. mark y == cond (is_special y) 128 0) 256 refl x small)

-- ---- a word

same_digits : (f g : ℕ → ℕ) → ((j : ℕ) → f j ≡ g j) → digits_from f 0 8 ≡ digits_from g 0 8
same_digits f g e = λ i. digits_from (λ j. e j i) 0 8

module _ (word : ℕ) (byte : ℕ → ℕ) (small : Bytes byte) (is : word ≡ digits_from byte 0 8) where
  differs_small : (c : ℕ) → Bytes (λ k. differs c (byte k))
  differs_small c k = omega (arith, and_le_r (bit_xor (byte k) c) 127)

  differences : (c : ℕ) → c < 256 → (spread : ℕ) → spread ≡ digits_from (λ _. c) 0 8
      → bit_and (bit_xor word spread) 0x7f7f_7f7f_7f7f_7f7f + 0x7f7f_7f7f_7f7f_7f7f
      ≡ digits_from (λ k. differs c (byte k)) 0 8
  differences c fits spread e =
      let changed = λ (k : ℕ). bit_xor (byte k) c in
      let first : bit_xor word spread ≡ digits_from changed 0 8 =
      (λ i. bit_xor (is i) (e i)) ∙ xor_Bytes byte (λ _. c) small (λ _. fits) in
      let low = λ (k : ℕ). bit_and (changed k) 127 in
      let second : bit_and (bit_xor word spread) 0x7f7f_7f7f_7f7f_7f7f ≡ digits_from low 0 8 =
      ap (λ w. bit_and w 0x7f7f_7f7f_7f7f_7f7f) first
      ∙ and_bytes changed (λ _. 127) (λ k. xor_lt 8 (byte k) c (small k) fits) (λ _. omega arith) in
      omega (arith, second)

  pub marks_are :
      bit_xor (bit_and (bit_or (bit_and (bit_and
      (bit_and (bit_xor word 0x2222_2222_2222_2222) 0x7f7f_7f7f_7f7f_7f7f + 0x7f7f_7f7f_7f7f_7f7f)
      (bit_and (bit_xor word 0x5c5c_5c5c_5c5c_5c5c) 0x7f7f_7f7f_7f7f_7f7f + 0x7f7f_7f7f_7f7f_7f7f))
      (bit_and word 0x7f7f_7f7f_7f7f_7f7f + 0x6060_6060_6060_6060)) word) 0x8080_8080_8080_8080) 0x8080_8080_8080_8080
      ≡ flag_word (λ k. is_special (byte k))
  marks_are =
      let quote = λ (k : ℕ). differs 34 (byte k) in
      let slash = λ (k : ℕ). differs 92 (byte k) in
      let control = λ (k : ℕ). bit_and (byte k) 127 + 96 in
      let control_small : Bytes control = λ k. omega (arith, and_le_r (byte k) 127) in
      let masked : bit_and word 0x7f7f_7f7f_7f7f_7f7f ≡ digits_from (λ k. bit_and (byte k) 127) 0 8 =
      ap (λ w. bit_and w 0x7f7f_7f7f_7f7f_7f7f) is ∙ and_bytes byte (λ _. 127) small (λ _. omega arith) in
      let added : bit_and word 0x7f7f_7f7f_7f7f_7f7f + 0x6060_6060_6060_6060 ≡ digits_from control 0 8 =
      omega (arith, masked) in
      let both = λ (k : ℕ). bit_and (quote k) (slash k) in
      let both_small : Bytes both = λ k. omega (arith, and_le_r (quote k) (slash k), differs_small 92 k) in
      let all = λ (k : ℕ). bit_and (both k) (control k) in
      let all_small : Bytes all = λ k. omega (arith, and_le_r (both k) (control k), control_small k) in
      let either = λ (k : ℕ). bit_or (all k) (byte k) in
      let either_small : Bytes either = λ k. or_lt 8 (all k) (byte k) (all_small k) (small k) in
      let high = λ (k : ℕ). bit_and (either k) 128 in
      let high_small : Bytes high = λ k. omega (arith, and_le_r (either k) 128) in
      let quotes = differences 34 (omega arith) 0x2222_2222_2222_2222 refl in
      let slashes = differences 92 (omega arith) 0x5c5c_5c5c_5c5c_5c5c refl in
      let two = (λ i. bit_and (quotes i) (slashes i)) ∙ and_bytes quote slash (differs_small 34) (differs_small 92) in
      let three = (λ i. bit_and (two i) (added i)) ∙ and_bytes both control both_small control_small in
      let joined = (λ i. bit_or (three i) (is i)) ∙ or_Bytes all byte all_small small in
      let kept = ap (λ w. bit_and w 0x8080_8080_8080_8080) joined
      ∙ and_bytes either (λ _. 128) either_small (λ _. omega arith) in
      ap (λ w. bit_xor w 0x8080_8080_8080_8080) kept ∙ xor_Bytes high (λ _. 128) high_small (λ _. omega arith)
      ∙ same_digits _ _ (λ k. mark_is (byte k) (small k))

-- ---- the bytes of a text

plain_is : (x : ℕ) → is_special x ≡ false → IsPlain x
plain_is x e = go (nat_lt x 32) (x == 34) (x == 92) refl refl refl e
  where
    go : (a b c : Bool) → nat_lt x 32 ≡ a → (x == 34) ≡ b → (x == 92) ≡ c → (a || (b || c)) ≡ false → IsPlain x
    go true b c s t u none = absurd (cc)
    go false true c s t u none = absurd (cc)
    go false false true s t u none = absurd (cc)
    go false false false s t u none = (ltb-false x 32 s, eqb-false x 34 t, eqb-false x 92 u)

abbrev pub special_at : List ℕ → ℕ → Bool
special_at bytes k = is_special (get_or bytes k 0)

-- bytes none of which is special go on a plain text
grown : (bytes : List ℕ) (i n : ℕ) → All IsPlain (take i bytes) → i + n ≤ length bytes
    → ((k : ℕ) → i ≤ k → k < i + n → special_at bytes k ≡ false) → All IsPlain (take (i + n) bytes)
grown bytes i zero all within none = let e : i + 0 ≡ i = omega arith in rw e all
grown bytes i (suc n) all within none =
    let before = grown bytes i n all (omega arith) (λ k least most. none k least (omega arith)) in
    let e : i + suc n ≡ i + n + 1 = omega arith in
    rw e (plain_more bytes (i + n) (omega arith) before
    (plain_is (get_or bytes (i + n) 0) (none (i + n) (omega arith) (omega arith))))

module _ (bytes : List ℕ) (i marks : ℕ) (all : All IsPlain (take i bytes)) (within : i + 8 ≤ length bytes)
    (is : marks ≡ flag_word (λ k. special_at bytes (i + k))) where
  pub none_special : marks ≡ 0 → All IsPlain (take (i + 8) bytes)
  none_special e = grown bytes i 8 all within ((flags (special_at bytes) i marks is).none e)

  pub first_special : 0 < marks
      → (i + trailing_zeros w64 marks / 8 ≤ length bytes) × All IsPlain (take (i + trailing_zeros w64 marks / 8) bytes)
  first_special some =
      let found = (flags (special_at bytes) i marks is).lowest some in
      let here : i + trailing_zeros w64 marks / 8 ≤ length bytes = omega (arith, found.0) in
      (here, grown bytes i (trailing_zeros w64 marks / 8) all here found.1.before)
