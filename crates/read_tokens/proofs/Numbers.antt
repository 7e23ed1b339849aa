-- A whole number that ends before a comma or a closing brace.
use Rattle.std.proofs.Common.{◌≡◌, ◌⊎◌, inl, inr, ℕ, zero, suc, ◌-◌, ◌^◌, ◌<◌, Bool, true, false, ◌==◌, List, [], ◌∷◌, ◌++◌, length, take, Some, refl, sym, ap, ◌∙◌, arith, length-append, append-nil, of_z, to_z, w64}
use Rattle.std.specs.Prelude.{◌≢◌, pos, negsuc, neg_ℤ, ◌-ℤ◌, option_and_then, slice_index}
use Rattle.std.proofs.Math.Seq.{take-append_seam, drop-append_seam}
use Rattle.std.proofs.lemmas.Bool.{and_parts, eqb-true, le-leb, lt-ltb, ne_eqb}
use Rattle.std.proofs.lemmas.Int.{to_z-of_z, to_z_pos}
use Rattle.std.proofs.lemmas.Float.Parse.{scan_numeral-text_of}
use borrow.Author.Rules.{sfits_of}
use Rattle.std.proofs.Math.IntN.{+ℤ_idl}
use Rattle.std.specs.Char.{is_ascii_digit}
use Rattle.std.specs.Float.Numeral.{Parts, scan_numeral}
use Rattle.std.specs.List.{list_all, prefix_len}
use Rattle.std.specs.Str.Parse.{digits_value}
use Rattle.json.specs.Token.{number}
use Rattle.json.specs.Word.{after_whole, after_fraction, after_exponent, after_number, number_before, word}
use Rattle.json.specs.Lex.{token, between, in_word, lex}
use Rattle.serde_json.specs.Find.{as_i64}
use Rattle.serde_json.specs.Read.{number_from, number_of}
use Rattle.read_tokens.specs.Runs.{EndsValue, IsNumber, IsWhole}
use Rattle.read_tokens.proofs.Digits.{digit_class, digits_are, no_other_word}

-- ---- the word

all_digits : (digits after : List ℕ) → list_all is_ascii_digit digits ≡ true → EndsValue after
    → prefix_len is_ascii_digit (digits ++ after) ≡ length digits
all_digits [] after all ends = none ends.first
  where
    none : (after ≡ 44 ∷ ends.rest) ⊎ (after ≡ 125 ∷ ends.rest) → prefix_len is_ascii_digit after ≡ 0
    none (inl e) = rw e refl
    none (inr e) = rw e refl
all_digits (x ∷ digits) after all ends =
    let both = and_parts (is_ascii_digit x) (list_all is_ascii_digit digits) all in
    rw (both.0, all_digits digits after both.1 ends) (omega arith)

module _ (after : List ℕ) (ends : EndsValue after) where
  no_more : option_and_then after_exponent (option_and_then after_fraction (Some after)) ≡ Some after
  no_more = go ends.first
    where
      go : (after ≡ 44 ∷ ends.rest) ⊎ (after ≡ 125 ∷ ends.rest)
          → option_and_then after_exponent (option_and_then after_fraction (Some after)) ≡ Some after
      go (inl e) = rw e refl
      go (inr e) = rw e refl

  cut_before : (text : List ℕ) → number_before (text ++ after) (Some after) ≡ number text
  cut_before text = go ends.first
    where
      count : (rest : List ℕ) → take (length (text ++ rest) - length rest) (text ++ rest) ≡ text
      count rest =
          let n : length (text ++ rest) - length rest ≡ length text = omega (arith, length-append text rest) in
          rw n (take-append_seam text rest)

      go : (after ≡ 44 ∷ ends.rest) ⊎ (after ≡ 125 ∷ ends.rest)
          → number_before (text ++ after) (Some after) ≡ number text
      go (inl e) = rw e (ap number (count (44 ∷ ends.rest)))
      go (inr e) = rw e (ap number (count (125 ∷ ends.rest)))

  passed : (digits : List ℕ) → list_all is_ascii_digit digits ≡ true
      → lex in_word (digits ++ after) ≡ lex between after
  unfolding lex
  passed [] all = go ends.first
    where
      go : (after ≡ 44 ∷ ends.rest) ⊎ (after ≡ 125 ∷ ends.rest) → lex in_word after ≡ lex between after
      go (inl e) = rw e refl
      go (inr e) = rw e refl
  passed (x ∷ digits) all =
      let both = and_parts (is_ascii_digit x) (list_all is_ascii_digit digits) all in
      rw (digit_class x both.0) (passed digits both.1)

  whole_part : (x : ℕ) (digits : List ℕ) → list_all is_ascii_digit (x ∷ digits) ≡ true
      → (x ≡ 48 → length (x ∷ digits) ≡ 1) → after_whole (x ∷ (digits ++ after)) ≡ Some after
  whole_part x digits all no_zero = go (x == 48) refl
    where
      rest_is : (rest : List ℕ) → length (x ∷ rest) ≡ 1 → rest ++ after ≡ after
      rest_is [] e = refl
      rest_is (y ∷ rest) e = absurd (omega (arith, e))

      go : (b : Bool) → (x == 48) ≡ b → after_whole (x ∷ (digits ++ after)) ≡ Some after
      go true e = rw e (ap Some (rest_is digits (no_zero (eqb-true x 48 e))))
      go false e =
          let n : prefix_len is_ascii_digit (x ∷ (digits ++ after)) ≡ suc (length digits) =
          all_digits (x ∷ digits) after all ends in
          rw (e, n, ne_eqb (suc (length digits)) 0 (λ z. omega (arith, z)))
          (ap Some (drop-append_seam (x ∷ digits) after))

  digits_word : (x : ℕ) (digits : List ℕ) → list_all is_ascii_digit (x ∷ digits) ≡ true
      → (x ≡ 48 → length (x ∷ digits) ≡ 1) → word (x ∷ (digits ++ after)) ≡ number (x ∷ digits)
  unfolding word after_number
  digits_word x digits all no_zero =
      let odd = no_other_word x (and_parts (is_ascii_digit x) (list_all is_ascii_digit digits) all).0 in
      rw (odd.no_true, odd.no_false, odd.no_null, odd.no_minus, whole_part x digits all no_zero, no_more)
      (cut_before (x ∷ digits))

  minus_word : (x : ℕ) (digits : List ℕ) → list_all is_ascii_digit (x ∷ digits) ≡ true
      → (x ≡ 48 → length (x ∷ digits) ≡ 1) → word (45 ∷ (x ∷ (digits ++ after))) ≡ number (45 ∷ (x ∷ digits))
  unfolding word after_number
  minus_word x digits all no_zero = rw (whole_part x digits all no_zero, no_more) (cut_before (45 ∷ (x ∷ digits)))

  pub digits_lexed : (digits : List ℕ) → 0 < length digits → list_all is_ascii_digit digits ≡ true
      → (slice_index digits 0 ≡ 48 → length digits ≡ 1)
      → lex between (digits ++ after) ≡ token (number digits) ∷ lex between after
  unfolding lex
  digits_lexed [] some all no_zero = absurd (omega arith)
  digits_lexed (x ∷ digits) some all no_zero =
      let both = and_parts (is_ascii_digit x) (list_all is_ascii_digit digits) all in
      rw (digit_class x both.0, digits_word x digits all no_zero, passed digits both.1) refl

  pub minus_lexed : (digits : List ℕ) → 0 < length digits → list_all is_ascii_digit digits ≡ true
      → (slice_index digits 0 ≡ 48 → length digits ≡ 1)
      → lex between (45 ∷ (digits ++ after)) ≡ token (number (45 ∷ digits)) ∷ lex between after
  unfolding lex
  minus_lexed [] some all no_zero = absurd (omega arith)
  minus_lexed (x ∷ digits) some all no_zero =
      rw (minus_word x digits all no_zero, passed (x ∷ digits) all) refl

-- ---- its value

abbrev integer : List ℕ → Parts
integer digits = record {
  whole = digits;
  point = false;
  fraction = [];
  exponent_negative = false;
  exponent = [];
  len = length digits;
}

scanned : (digits : List ℕ) → list_all is_ascii_digit digits ≡ true → scan_numeral digits ≡ integer digits
scanned digits all =
    ap scan_numeral (sym (append-nil digits)) ∙ scan_numeral-text_of (integer digits) (record {
      whole_digits = digits_are digits all;
      fraction_digits = tt;
      exponent_digits = tt;
      no_point = λ e. refl;
      no_exponent = λ e. refl;
      len_is = sym (ap length (append-nil digits));
    })

-- ---- as the functions have it

module _ (digits : List ℕ) (some : 0 < length digits) (all : list_all is_ascii_digit digits ≡ true)
    (fits : digits_value 10 digits < 10 ^ 18) where
  plain_value : option_and_then as_i64 (number_from false (scan_numeral digits)) ≡ Some (pos (digits_value 10 digits))
  plain_value =
      rw (
        scanned digits all,
        lt-ltb 0 (length digits) some,
        append-nil digits,
        lt-ltb (digits_value 10 digits) (2 ^ 64) (omega (arith, fits)),
        lt-ltb (digits_value 10 digits) (2 ^ 63) (omega (arith, fits)),
      ) refl

  minus_value : 0 < digits_value 10 digits
      → option_and_then as_i64 (number_from true (scan_numeral digits)) ≡ Some (neg_ℤ (pos (digits_value 10 digits)))
  minus_value more =
      rw (
        scanned digits all,
        lt-ltb 0 (length digits) some,
        append-nil digits,
        lt-ltb 0 (digits_value 10 digits) more,
        le-leb (digits_value 10 digits) (2 ^ 63) (omega (arith, fits)),
      ) refl

no_minus_first : (digits : List ℕ) → 0 < length digits → list_all is_ascii_digit digits ≡ true
    → number_of digits ≡ number_from false (scan_numeral digits)
unfolding number_of
no_minus_first [] some all = absurd (omega arith)
no_minus_first (x ∷ digits) some all =
    rw (no_other_word x (and_parts (is_ascii_digit x) (list_all is_ascii_digit digits) all).0).no_minus refl

minus_first : (digits : List ℕ) → number_of (45 ∷ digits) ≡ number_from true (scan_numeral digits)
unfolding number_of
minus_first digits = refl

negated : (value : ℕ) → value ≢ 0 → value < 10 ^ 18
    → to_z w64 (of_z w64 (pos 0 -ℤ to_z w64 value)) ≡ neg_ℤ (pos value)
negated zero more fits = absurd (more refl)
negated (suc k) more fits =
    rw (to_z_pos w64 (suc k) (omega (arith, fits)))
    (ap (λ z. to_z w64 (of_z w64 z)) (+ℤ_idl (neg_ℤ (pos (suc k))))
    ∙ to_z-of_z w64 (negsuc k) (sfits_of {w = w64} {z = negsuc k} (omega (arith, fits))))

pub number_of_digits : (bytes after : List ℕ) (value : ℕ) → IsWhole bytes value after
    → IsNumber bytes (to_z w64 value) after
number_of_digits bytes after value w = record {
  text = w.digits;
  lexed = λ ends. rw w.same (digits_lexed after ends w.digits w.some w.are w.no_zero);
  value_is =
      ap (option_and_then as_i64) (no_minus_first w.digits w.some w.are)
      ∙ plain_value w.digits w.some w.are (omega (arith, w.value_is, w.fits))
      ∙ ap Some (ap pos (sym w.value_is) ∙ sym (to_z_pos w64 value (omega (arith, w.fits))));
}

pub number_after_minus : (bytes rest after : List ℕ) (value : ℕ) → bytes ≡ 45 ∷ rest → IsWhole rest value after
    → value ≢ 0 → IsNumber bytes (to_z w64 (of_z w64 (pos 0 -ℤ to_z w64 value))) after
number_after_minus bytes rest after value is w more = record {
  text = 45 ∷ w.digits;
  lexed = λ ends. rw (is, w.same) (minus_lexed after ends w.digits w.some w.are w.no_zero);
  value_is =
      ap (option_and_then as_i64) (minus_first w.digits)
      ∙ minus_value w.digits w.some w.are (omega (arith, w.value_is, w.fits)) (omega (arith, w.value_is, more))
      ∙ ap Some (ap (λ n. neg_ℤ (pos n)) (sym w.value_is) ∙ sym (negated value more w.fits));
}
