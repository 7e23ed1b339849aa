-- The longest run of bytes that pass a test, at the front of a text.
use Rattle.std.proofs.Common.{◌≡◌, ℕ, zero, suc, ◌+◌, ◌<◌, Bool, true, false, List, [], ◌∷◌, length, take, drop, get_or, refl, sym, ◌∙◌, ap, subst, arith}
use Rattle.std.specs.List.{prefix_len, list_all}
use Rattle.std.specs.Str.{IsUtf8, IsCharBoundary}
use Rattle.std.proofs.lemmas.List.{take-append-drop}
use Rattle.std.proofs.lemmas.List.Sums.{prefix_len-le-length, prefix_len_passes}
use Rattle.std.proofs.lemmas.Bool.Decides.{nat_tests}
use Rattle.std.proofs.lemmas.Str.{IsCharBoundary-start, IsCharBoundary-after_ascii}
use Rattle.def_format.specs.Names.{is_letter, is_digit, is_in_word, is_word}
use Rattle.def_format.specs.Tokens.{Token, Word, Digits, number_from, is_digits, is_space, continues, IsLongest}
use Rattle.pd_pred.specs.Lexing.{IsFirstToken, SkipsSpaces}

run_more : (p : ℕ → Bool) (x : ℕ) (xs : List ℕ) → p x ≡ true → prefix_len p (x ∷ xs) ≡ suc (prefix_len p xs)
run_more p x xs h = rw h (omega arith)

pub run_passes : (p : ℕ → Bool) (xs : List ℕ) → list_all p (take (prefix_len p xs) xs) ≡ true
run_passes p [] = refl
run_passes p (x ∷ xs) = go (p x) refl (run_passes p xs)
  where
    go : (b : Bool) → p x ≡ b → list_all p (take (prefix_len p xs) xs) ≡ true
        → list_all p (take (prefix_len p (x ∷ xs)) (x ∷ xs)) ≡ true
    go true e ih = rw (run_more p x xs e, e) ih
    go false e ih = rw e refl

pub run_stops : (p : ℕ → Bool) (xs : List ℕ) (byte : ℕ) (others : List ℕ) → drop (prefix_len p xs) xs ≡ byte ∷ others
    → p byte ≡ false
run_stops p [] byte others e = absurd (cc)
run_stops p (x ∷ xs) byte others e =
    go (p x) refl (λ (h : drop (prefix_len p xs) xs ≡ byte ∷ others). run_stops p xs byte others h) e
  where
    go : (b : Bool) → p x ≡ b → (drop (prefix_len p xs) xs ≡ byte ∷ others → p byte ≡ false)
        → drop (prefix_len p (x ∷ xs)) (x ∷ xs) ≡ byte ∷ others → p byte ≡ false
    go true h ih e = ih (rw (run_more p x xs h) at e)
    go false h ih e =
        let whole : x ∷ xs ≡ byte ∷ others = rw h at e in
        let same : x ≡ byte = cc in
        rw (← same) h

pub run_boundary : (p : ℕ → Bool) → ((byte : ℕ) → p byte ≡ true → byte < 128) → (text : List ℕ) → IsUtf8 text
    → IsCharBoundary text (prefix_len p text)
run_boundary p ascii text utf8 = go (prefix_len p text) refl
  where
    go : (n : ℕ) → prefix_len p text ≡ n → IsCharBoundary text n
    go zero e = IsCharBoundary-start text utf8
    go (suc k) e =
        let inside : k < prefix_len p text = omega arith in
        let within : k < length text = omega (arith, prefix_len-le-length p text) in
        let P : ℕ → Type 0 = λ n. IsCharBoundary text n in
        let there : k + 1 ≡ suc k = omega arith in
        subst P there (IsCharBoundary-after_ascii text k utf8 within
        (ascii (get_or text k 0) (prefix_len_passes p text k 0 inside)))

pub space_ascii : (byte : ℕ) → is_space byte ≡ true → byte < 128
space_ascii byte h = grind (arith, nat_tests)

pub word_ascii : (byte : ℕ) → is_in_word byte ≡ true → byte < 128
word_ascii byte h = grind (arith, nat_tests)

pub digit_ascii : (byte : ℕ) → is_digit byte ≡ true → byte < 128
digit_ascii byte h = grind (arith, nat_tests)

-- ---- what the runs are

pub skips_spaces : (text rest : List ℕ) → rest ≡ drop (prefix_len is_space text) text → SkipsSpaces text rest
skips_spaces text rest e = record {
  spaces = take (prefix_len is_space text) text;
  are_spaces = run_passes is_space text;
  parts = rw e (sym (take-append-drop (prefix_len is_space text) text));
  no_more = λ byte others h. run_stops is_space text byte others (sym e ∙ h);
}

longest_run : (token : Token) (p : ℕ → Bool) → ((byte : ℕ) → continues token byte ≡ p byte) → (text rest : List ℕ)
    → rest ≡ drop (prefix_len p text) text → IsLongest token rest
longest_run token p same text [] e = tt
longest_run token p same text (byte ∷ rest) e = same byte ∙ run_stops p text byte rest (sym e)

word_spelled : (text : List ℕ) → is_letter (get_or text 0 0) ≡ true → is_word (take (prefix_len is_in_word text) text)
    ≡ true
word_spelled [] h = absurd (cc)
word_spelled (x ∷ xs) h =
    let inside : is_in_word x ≡ true = rw h refl in
    rw (run_more is_in_word x xs inside, h) (run_passes is_in_word xs)

digits_spelled : (text : List ℕ) → is_digit (get_or text 0 0) ≡ true → is_digits (take (prefix_len is_digit text) text)
    ≡ true
digits_spelled [] h = absurd (cc)
digits_spelled (x ∷ xs) h = rw (run_more is_digit x xs h, h) (run_passes is_digit xs)

pub word_is_first : (text word rest : List ℕ) → is_letter (get_or text 0 0) ≡ true
    → word ≡ take (prefix_len is_in_word text) text → rest ≡ drop (prefix_len is_in_word text) text
    → IsFirstToken text (Word word) rest
word_is_first text word rest h e f = record {
  spelling = take (prefix_len is_in_word text) text;
  parts = rw f (sym (take-append-drop (prefix_len is_in_word text) text));
  spells = (word_spelled text h, e);
  longest = longest_run (Word word) is_in_word (λ byte. refl) text rest f;
}

pub digits_are_first : (text digits rest : List ℕ) → is_digit (get_or text 0 0) ≡ true
    → digits ≡ take (prefix_len is_digit text) text → rest ≡ drop (prefix_len is_digit text) text
    → IsFirstToken text (Digits (number_from 0 digits)) rest
digits_are_first text digits rest h e f = record {
  spelling = take (prefix_len is_digit text) text;
  parts = rw f (sym (take-append-drop (prefix_len is_digit text) text));
  spells = (digits_spelled text h, ap (number_from 0) e);
  longest = longest_run (Digits (number_from 0 digits)) is_digit (λ byte. refl) text rest f;
}
