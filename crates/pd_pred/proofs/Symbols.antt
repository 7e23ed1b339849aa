-- The tokens of one byte or two, reported from their bytes.
use Rattle.std.proofs.Common.{◌≡◌, ℕ, ◌<◌, ◌≤◌, Bool, true, false, List, [], ◌∷◌, ◌++◌, length, get_or, drop, refl, sym, ◌∙◌, ap, subst, lit<, arith}
use Rattle.std.proofs.lemmas.Bool.{eqb-true}
use Rattle.std.specs.Prelude.{◌&&◌, ◌==◌, Some, slice_get}
use Rattle.std.specs.Str.{IsUtf8, IsCharBoundary}
use Rattle.std.proofs.lemmas.Str.{IsCharBoundary-after_ascii}
use Rattle.def_model.specs.Predicates.{Plus, Minus, Equals, Differs, IsLess, IsAtMost, IsGreater, IsAtLeast}
use Rattle.def_format.specs.Names.{is_letter, is_digit}
use Rattle.def_format.specs.Tokens.{Token, Word, Digits, OpenParen, CloseParen, Relates, Signs, Star, Dot, End, IsSpelling, IsLongest, continues, BeginsNoToken}
use Rattle.pd_pred.specs.Lexing.{IsFirstToken, SpellsNoToken, BeginsNoDouble}

-- a byte that begins no word and no number
record BeginsSymbol (byte : ℕ) : Type 0 where
  no_letter : is_letter byte ≡ false
  no_digit : is_digit byte ≡ false

-- after its first byte a symbol has nothing or one byte, and both are ASCII
data Shape (a : ℕ) : List ℕ → Type 0 where
  single : a < 128 → Shape a []
  double : (b : ℕ) → a < 128 → b < 128 → Shape a (b ∷ [])

below : (a n : ℕ) → a ≡ n → n < 128 → a < 128
below a n e h = rw e h

one_byte : (a n : ℕ) (s : List ℕ) → a ∷ s ≡ n ∷ [] → n < 128 → Shape a s
one_byte a n [] e h = single (below a n (cc) h)
one_byte a n (b ∷ s) e h = absurd (cc)

two_bytes : (a n m : ℕ) (s : List ℕ) → a ∷ s ≡ n ∷ m ∷ [] → n < 128 → m < 128 → Shape a s
two_bytes a n m [] e h k = absurd (cc)
two_bytes a n m (b ∷ []) e h k = double b (below a n (cc) h) (below b m (cc) k)
two_bytes a n m (b ∷ c ∷ s) e h k = absurd (cc)

no_word : (b : Bool) (rest : Bool) → b ≡ false → (b && rest) ≡ true → ⊥
no_word true rest h e = cc
no_word false rest h e = cc

shape : (a : ℕ) (s : List ℕ) (t : Token) → BeginsSymbol a → IsSpelling (a ∷ s) t → Shape a s
shape a s (Word w) b h = absurd (no_word (is_letter a) _ b.no_letter h.0)
shape a s (Digits n) b h = absurd (no_word (is_digit a) _ b.no_digit h.0)
shape a s OpenParen b h = one_byte a 40 s h (lit< tt)
shape a s CloseParen b h = one_byte a 41 s h (lit< tt)
shape a s (Relates Equals) b h = two_bytes a 61 61 s h (lit< tt) (lit< tt)
shape a s (Relates Differs) b h = two_bytes a 33 61 s h (lit< tt) (lit< tt)
shape a s (Relates IsLess) b h = one_byte a 60 s h (lit< tt)
shape a s (Relates IsAtMost) b h = two_bytes a 60 61 s h (lit< tt) (lit< tt)
shape a s (Relates IsGreater) b h = one_byte a 62 s h (lit< tt)
shape a s (Relates IsAtLeast) b h = two_bytes a 62 61 s h (lit< tt) (lit< tt)
shape a s (Signs Plus) b h = one_byte a 43 s h (lit< tt)
shape a s (Signs Minus) b h = one_byte a 45 s h (lit< tt)
shape a s Star b h = one_byte a 42 s h (lit< tt)
shape a s Dot b h = one_byte a 46 s h (lit< tt)
shape a s End b h = absurd h

pub not_empty : (t : Token) → IsSpelling [] t → ⊥
not_empty (Word w) h = let bad = h.0 in cc
not_empty (Digits n) h = let bad = h.0 in cc
not_empty OpenParen h = cc
not_empty CloseParen h = cc
not_empty (Relates Equals) h = cc
not_empty (Relates Differs) h = cc
not_empty (Relates IsLess) h = cc
not_empty (Relates IsAtMost) h = cc
not_empty (Relates IsGreater) h = cc
not_empty (Relates IsAtLeast) h = cc
not_empty (Signs Plus) h = cc
not_empty (Signs Minus) h = cc
not_empty Star h = cc
not_empty Dot h = cc
not_empty End h = h

first_is_ascii : (a : ℕ) (s : List ℕ) (t : Token) → BeginsSymbol a → IsSpelling (a ∷ s) t → a < 128
first_is_ascii a s t b h = go (shape a s t b h)
  where
    go : {s : List ℕ} → Shape a s → a < 128
    go (single k) = k
    go (double d k l) = k

second_is_ascii : (a c : ℕ) (t : Token) → BeginsSymbol a → IsSpelling (a ∷ c ∷ []) t → c < 128
second_is_ascii a c t b h = go (shape a (c ∷ []) t b h) refl
  where
    go : {s : List ℕ} → Shape a s → s ≡ c ∷ [] → c < 128
    go (single k) e = absurd (cc)
    go (double d k l) e = let same : c ≡ d = cc in rw same l

-- ---- as long as they can be

single_longest : (a byte : ℕ) (t : Token) → BeginsSymbol a → IsSpelling (a ∷ []) t → SpellsNoToken (a ∷ byte ∷ [])
    → continues t byte ≡ false
single_longest a byte (Word w) b h none = absurd (no_word (is_letter a) _ b.no_letter h.0)
single_longest a byte (Digits n) b h none = absurd (no_word (is_digit a) _ b.no_digit h.0)
single_longest a byte (Relates IsLess) b h none = go (byte == 61) refl
  where
    go : (r : Bool) → (byte == 61) ≡ r → (byte == 61) ≡ false
    go true e =
        let same : byte ≡ 61 = eqb-true byte 61 e in
        let prefix : a ≡ 60 = cc in
        absurd (none (Relates IsAtMost) (rw (prefix, same) refl))
    go false e = e
single_longest a byte (Relates IsGreater) b h none = go (byte == 61) refl
  where
    go : (r : Bool) → (byte == 61) ≡ r → (byte == 61) ≡ false
    go true e =
        let same : byte ≡ 61 = eqb-true byte 61 e in
        let prefix : a ≡ 62 = cc in
        absurd (none (Relates IsAtLeast) (rw (prefix, same) refl))
    go false e = e
single_longest a byte (Relates Equals) b h none = refl
single_longest a byte (Relates Differs) b h none = refl
single_longest a byte (Relates IsAtMost) b h none = refl
single_longest a byte (Relates IsAtLeast) b h none = refl
single_longest a byte OpenParen b h none = refl
single_longest a byte CloseParen b h none = refl
single_longest a byte (Signs s) b h none = refl
single_longest a byte Star b h none = refl
single_longest a byte Dot b h none = refl
single_longest a byte End b h none = refl

double_longest : (a c byte : ℕ) (t : Token) → BeginsSymbol a → IsSpelling (a ∷ c ∷ []) t → continues t byte ≡ false
double_longest a c byte (Word w) b h = absurd (no_word (is_letter a) _ b.no_letter h.0)
double_longest a c byte (Digits n) b h = absurd (no_word (is_digit a) _ b.no_digit h.0)
double_longest a c byte (Relates IsLess) b h = absurd (cc)
double_longest a c byte (Relates IsGreater) b h = absurd (cc)
double_longest a c byte (Relates Equals) b h = refl
double_longest a c byte (Relates Differs) b h = refl
double_longest a c byte (Relates IsAtMost) b h = refl
double_longest a c byte (Relates IsAtLeast) b h = refl
double_longest a c byte OpenParen b h = refl
double_longest a c byte CloseParen b h = refl
double_longest a c byte (Signs s) b h = refl
double_longest a c byte Star b h = refl
double_longest a c byte Dot b h = refl
double_longest a c byte End b h = refl

longest : (t : Token) (rest : List ℕ) → ((byte : ℕ) (others : List ℕ) → rest ≡ byte ∷ others → continues t byte ≡ false)
    → IsLongest t rest
longest t [] h = tt
longest t (byte ∷ others) h = h byte others refl

double_is_first : (text : List ℕ) (a c : ℕ) (rest : List ℕ) (t : Token) → BeginsSymbol a → text ≡ a ∷ c ∷ rest
    → IsSpelling (a ∷ c ∷ []) t → IsFirstToken text t rest
double_is_first text a c rest t b e h =
    record {
      spelling = a ∷ c ∷ [];
      parts = e;
      spells = h;
      longest =
          longest t rest (λ byte others f. double_longest a c byte t b h);
    }

single_is_first : (text : List ℕ) (a : ℕ) (rest : List ℕ) (t : Token) → BeginsSymbol a → text ≡ a ∷ rest
    → IsSpelling (a ∷ []) t → BeginsNoDouble text → IsFirstToken text t rest
single_is_first text a rest t b e h none =
    record {
      spelling = a ∷ [];
      parts = e;
      spells = h;
      longest =
          longest t rest (λ byte others f. single_longest a byte t b h (none a byte others (e ∙ ap (λ z. a ∷ z) f)));
    }

none_begins : (text : List ℕ) (a : ℕ) (rest : List ℕ) → BeginsSymbol a → text ≡ a ∷ rest → SpellsNoToken (a ∷ [])
    → BeginsNoDouble text → BeginsNoToken text
none_begins text a rest b e no_single no_double [] others t f h = not_empty t h
none_begins text a rest b e no_single no_double (x ∷ s) others t f h = go (shape a s t b spelled) spelled f
  where
    same : x ≡ a
    same = cc (sym f ∙ e)

    spelled : IsSpelling (a ∷ s) t
    spelled = let P : ℕ → Type 0 = λ z. IsSpelling (z ∷ s) t in subst P same h

    go : {s : List ℕ} → Shape a s → IsSpelling (a ∷ s) t → text ≡ (x ∷ s) ++ others → ⊥
    go (single k) h f = no_single t h
    go (double c k l) h f = no_double a c others (f ∙ ap (λ z. z ∷ c ∷ others) same) t h

-- ---- the same, as the program reads the bytes

two_parts : (text : List ℕ) → 2 ≤ length text → text ≡ get_or text 0 0 ∷ get_or text 1 0 ∷ drop 2 text
two_parts [] h = absurd (omega arith)
two_parts (x ∷ []) h = absurd (omega arith)
two_parts (x ∷ y ∷ rest) h = refl

begins : (a : ℕ) → is_letter a ≡ false → is_digit a ≡ false → BeginsSymbol a
begins a h k = record { no_letter = h; no_digit = k }

pub double_at_prefix : (text bytes rest : List ℕ) (t : Token) → bytes ≡ text → 2 ≤ length bytes
    → is_letter (get_or text 0 0) ≡ false → is_digit (get_or text 0 0) ≡ false
    → IsSpelling (get_or bytes 0 0 ∷ get_or bytes 1 0 ∷ []) t → rest ≡ drop 2 text → IsFirstToken text t rest
double_at_prefix text bytes rest t e h no_letter no_digit spells f =
    let long : 2 ≤ length text = omega (arith, ap length e) in
    let P : List ℕ → Type 0 = λ z. IsSpelling (get_or z 0 0 ∷ get_or z 1 0 ∷ []) t in
    double_is_first text (get_or text 0 0) (get_or text 1 0) rest t (begins (get_or text 0 0) no_letter no_digit)
    (rw f (two_parts text long)) (subst P e spells)

pub double_boundary : (text bytes : List ℕ) (t : Token) → IsUtf8 text → bytes ≡ text → 2 ≤ length bytes
    → is_letter (get_or text 0 0) ≡ false → is_digit (get_or text 0 0) ≡ false
    → IsSpelling (get_or bytes 0 0 ∷ get_or bytes 1 0 ∷ []) t → IsCharBoundary text 2
double_boundary text bytes t utf8 e h no_letter no_digit spells =
    let long : 2 ≤ length text = omega (arith, ap length e) in
    let P : List ℕ → Type 0 = λ z. IsSpelling (get_or z 0 0 ∷ get_or z 1 0 ∷ []) t in
    IsCharBoundary-after_ascii text 1 utf8 (omega arith)
    (second_is_ascii (get_or text 0 0) (get_or text 1 0) t (begins (get_or text 0 0) no_letter no_digit)
    (subst P e spells))

prefix_parts : (text : List ℕ) (a : ℕ) → Some a ≡ slice_get text 0 → (text ≡ a ∷ drop 1 text) × (get_or text 0 0 ≡ a)
    × (0 < length text)
prefix_parts [] a e = absurd (cc)
prefix_parts (x ∷ rest) a e =
    let same : x ≡ a = cc in
    (rw same refl, same, omega arith)

begins_prefix : (text : List ℕ) (a : ℕ) → Some a ≡ slice_get text 0 → is_letter (get_or text 0 0) ≡ false
    → is_digit (get_or text 0 0) ≡ false → BeginsSymbol a
begins_prefix text a e no_letter no_digit =
    let same : get_or text 0 0 ≡ a = (prefix_parts text a e).1 in
    begins a (rw same at no_letter) (rw same at no_digit)

pub single_at_prefix : (text bytes rest : List ℕ) (a : ℕ) (t : Token) → bytes ≡ text → Some a ≡ slice_get bytes 0
    → is_letter (get_or text 0 0) ≡ false → is_digit (get_or text 0 0) ≡ false → BeginsNoDouble text
    → IsSpelling (a ∷ []) t → rest ≡ drop 1 text → IsFirstToken text t rest
single_at_prefix text bytes rest a t e read no_letter no_digit none spells f =
    let here : Some a ≡ slice_get text 0 = read ∙ ap (λ z. slice_get z 0) e in
    single_is_first text a rest t (begins_prefix text a here no_letter no_digit) (rw f (prefix_parts text a here).0)
    spells none

pub single_boundary : (text bytes : List ℕ) (a : ℕ) (t : Token) → IsUtf8 text → bytes ≡ text
    → Some a ≡ slice_get bytes 0 → is_letter (get_or text 0 0) ≡ false → is_digit (get_or text 0 0) ≡ false
    → IsSpelling (a ∷ []) t → IsCharBoundary text 1
single_boundary text bytes a t utf8 e read no_letter no_digit spells =
    let here : Some a ≡ slice_get text 0 = read ∙ ap (λ z. slice_get z 0) e in
    let parts = prefix_parts text a here in
    let ascii : a < 128 = first_is_ascii a [] t (begins_prefix text a here no_letter no_digit) spells in
    IsCharBoundary-after_ascii text 0 utf8 parts.2 (rw parts.1 ascii)

pub no_single_at_prefix : (text bytes : List ℕ) (a : ℕ) → bytes ≡ text → Some a ≡ slice_get bytes 0
    → is_letter (get_or text 0 0) ≡ false → is_digit (get_or text 0 0) ≡ false → BeginsNoDouble text
    → SpellsNoToken (a ∷ []) → BeginsNoToken text
no_single_at_prefix text bytes a e read no_letter no_digit no_double no_single =
    let here : Some a ≡ slice_get text 0 = read ∙ ap (λ z. slice_get z 0) e in
    none_begins text a (drop 1 text) (begins_prefix text a here no_letter no_digit) (prefix_parts text a here).0
    no_single no_double
