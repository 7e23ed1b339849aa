-- A text's bytes are tokens in one way.
use Rattle.std.proofs.Common.{◌≡◌, ℕ, ◌+◌, Bool, true, false, cond, List, [], ◌∷◌, ◌++◌, length, refl, sym, ◌∙◌, ap, subst, arith}
use Rattle.std.specs.Prelude.{codes, ◌||◌, ◌==◌}
use mathlib.Core.Path.{subst₃}
use Rattle.std.specs.List.{list_all}
use Rattle.std.proofs.lemmas.Bool.Decides.{nat_tests}
use Rattle.std.proofs.lemmas.Bool.{and_parts}
use Rattle.def_model.specs.Predicates.{Sign, Plus, Minus, Comparison, Equals, Differs, IsLess, IsAtMost, IsGreater, IsAtLeast}
use Rattle.def_format.specs.Names.{is_letter, is_digit, is_in_word, is_word}
use Rattle.def_format.specs.Tokens.{Token, Word, Digits, OpenParen, CloseParen, Relates, Signs, Star, Dot, End, Placed, placed, number_from, is_digits, comparison_text, sign_text, IsSpelling, continues, IsLongest, is_space, Lexes, AreTokens, BeginsNoToken, IsStray}

-- the first of these bytes, if there is one, fails the test
data Fails (test : ℕ → Bool) : List ℕ → Type 0 where
  at_end : Fails test []
  at_byte : {byte : ℕ} {rest : List ℕ} → test byte ≡ false → Fails test (byte ∷ rest)

-- a longest run is one
one_run : (test : ℕ → Bool) (s t r q : List ℕ) → list_all test s ≡ true → list_all test t ≡ true → Fails test r
    → Fails test q → s ++ r ≡ t ++ q → (s ≡ t) × (r ≡ q)
one_run test [] [] r q hs ht fr fq e = (refl, e)
one_run test [] (y ∷ t) r q hs ht fr fq e = absurd (against fr e)
  where
    against : {b : List ℕ} → Fails test b → b ≡ (y ∷ t) ++ q → ⊥
    against at_end e = cc
    against (at_byte {byte = byte} h) e =
        let same : byte ≡ y = cc in
        let bad = rw same at h in
        let good = (and_parts (test y) (list_all test t) ht).0 in cc
one_run test (x ∷ s) [] r q hs ht fr fq e = absurd (against fq (sym e))
  where
    against : {b : List ℕ} → Fails test b → b ≡ (x ∷ s) ++ r → ⊥
    against at_end e = cc
    against (at_byte {byte = byte} h) e =
        let same : byte ≡ x = cc in
        let bad = rw same at h in
        let good = (and_parts (test x) (list_all test s) hs).0 in cc
one_run test (x ∷ s) (y ∷ t) r q hs ht fr fq e =
    let head : x ≡ y = cc in
    let later =
    one_run test s t r q (and_parts (test x) (list_all test s) hs).1 (and_parts (test y) (list_all test t) ht).1 fr
    fq (cc) in
    (rw (head, later.0) refl, later.1)

fails_of_longest : (test : ℕ → Bool) (token : Token) (rest : List ℕ) → ((byte : ℕ) → continues token byte ≡ test byte)
    → IsLongest token rest → Fails test rest
fails_of_longest test token [] same h = at_end
fails_of_longest test token (byte ∷ rest) same h = at_byte (sym (same byte) ∙ h)

-- ---- which tokens begin with a byte

abbrev class_of_byte : ℕ → ℕ
class_of_byte byte =
    cond (is_letter byte) 1 (cond (is_digit byte) 2 (cond (byte == 40) 3 (cond (byte == 41) 4
    (cond (byte == 61 || byte == 33 || byte == 60 || byte == 62) 5
    (cond (byte == 43 || byte == 45) 6 (cond (byte == 42) 7 (cond (byte == 46) 8 0)))))))

abbrev class : Token → ℕ
class (Word w) = 1
class (Digits n) = 2
class OpenParen = 3
class CloseParen = 4
class (Relates comparison) = 5
class (Signs sign) = 6
class Star = 7
class Dot = 8
class End = 9

not_digit_if_letter : (byte : ℕ) → is_digit byte ≡ true → is_letter byte ≡ false
not_digit_if_letter byte h = grind (arith, nat_tests)

letter_no_space : (byte : ℕ) → is_letter byte ≡ true → is_space byte ≡ false
letter_no_space byte h = grind (arith, nat_tests)

digit_no_space : (byte : ℕ) → is_digit byte ≡ true → is_space byte ≡ false
digit_no_space byte h = grind (arith, nat_tests)

-- the first byte of a token's spelling
record Starts (s : List ℕ) (t : Token) : Type 0 where
  byte : ℕ
  rest : List ℕ
  parts : s ≡ byte ∷ rest
  class : class_of_byte byte ≡ class t
  no_space : is_space byte ≡ false

symbol : (s : List ℕ) (byte : ℕ) (rest : List ℕ) (t : Token) → s ≡ byte ∷ rest → class_of_byte byte ≡ class t
    → is_space byte ≡ false → Starts s t
symbol s byte rest t e k h = record { byte = byte; rest = rest; parts = e; class = k; no_space = h }

starts : (s : List ℕ) (t : Token) → IsSpelling s t → Starts s t
starts [] (Word w) h = absurd (let bad = h.0 in cc)
starts (x ∷ s) (Word w) h =
    let letter = (and_parts (is_letter x) (list_all is_in_word s) h.0).0 in
    symbol (x ∷ s) x s (Word w) refl (rw letter refl) (letter_no_space x letter)
starts [] (Digits n) h = absurd (let bad = h.0 in cc)
starts (x ∷ s) (Digits n) h =
    let digit = (and_parts (is_digit x) (list_all is_digit s) h.0).0 in
    symbol (x ∷ s) x s (Digits n) refl (rw (not_digit_if_letter x digit, digit) refl) (digit_no_space x digit)
starts s OpenParen h = symbol s 40 [] OpenParen h refl refl
starts s CloseParen h = symbol s 41 [] CloseParen h refl refl
starts s (Relates Equals) h = symbol s 61 (codes "=") (Relates Equals) h refl refl
starts s (Relates Differs) h = symbol s 33 (codes "=") (Relates Differs) h refl refl
starts s (Relates IsLess) h = symbol s 60 [] (Relates IsLess) h refl refl
starts s (Relates IsAtMost) h = symbol s 60 (codes "=") (Relates IsAtMost) h refl refl
starts s (Relates IsGreater) h = symbol s 62 [] (Relates IsGreater) h refl refl
starts s (Relates IsAtLeast) h = symbol s 62 (codes "=") (Relates IsAtLeast) h refl refl
starts s (Signs Plus) h = symbol s 43 [] (Signs Plus) h refl refl
starts s (Signs Minus) h = symbol s 45 [] (Signs Minus) h refl refl
starts s Star h = symbol s 42 [] Star h refl refl
starts s Dot h = symbol s 46 [] Dot h refl refl
starts s End h = absurd h

same_class : (s t r q : List ℕ) (a b : Token) → Starts s a → Starts t b → s ++ r ≡ t ++ q → class a ≡ class b
same_class s t r q a b f g e =
    let whole : f.byte ∷ (f.rest ++ r) ≡ g.byte ∷ (g.rest ++ q) = ap (λ z. z ++ r) (sym f.parts) ∙ e
    ∙ ap (λ z. z ++ q) g.parts in
    let first : f.byte ≡ g.byte = cc in
    sym f.class ∙ ap class_of_byte first ∙ g.class

-- words and numbers are longest runs
word_run : (s t r q : List ℕ) → is_word s ≡ true → is_word t ≡ true → Fails is_in_word r → Fails is_in_word q
    → s ++ r ≡ t ++ q → s ≡ t
word_run [] t r q h k fr fq e = absurd (cc)
word_run (x ∷ s) [] r q h k fr fq e = absurd (cc)
word_run (x ∷ s) (y ∷ t) r q h k fr fq e =
    let head : x ≡ y = cc in
    rw (
      head,
      (one_run is_in_word s t r q (and_parts (is_letter x) (list_all is_in_word s) h).1
          (and_parts (is_letter y) (list_all is_in_word t) k).1 fr fq (cc)).0,
    ) refl

digits_run : (s t r q : List ℕ) → is_digits s ≡ true → is_digits t ≡ true → Fails is_digit r → Fails is_digit q
    → s ++ r ≡ t ++ q → s ≡ t
digits_run [] t r q h k fr fq e = absurd (cc)
digits_run (x ∷ s) [] r q h k fr fq e = absurd (cc)
digits_run (x ∷ s) (y ∷ t) r q h k fr fq e =
    let head : x ≡ y = cc in
    rw (
      head,
      (one_run is_digit s t r q (and_parts (is_digit x) (list_all is_digit s) h).1
          (and_parts (is_digit y) (list_all is_digit t) k).1 fr fq (cc)).0,
    ) refl

-- a `<` or `>` with `=` after it isn't as long as it can be
no_longer : (s t r q : List ℕ) (byte : ℕ) (token : Token) → ((other : ℕ) → continues token other ≡ (other == 61))
    → s ≡ byte ∷ [] → t ≡ byte ∷ 61 ∷ [] → IsLongest token r → s ++ r ≡ t ++ q → ⊥
no_longer s t r q byte token same hs ht longest e =
    let whole : byte ∷ r ≡ byte ∷ 61 ∷ q = ap (λ z. z ++ r) (sym hs) ∙ e ∙ ap (λ z. z ++ q) ht in
    let tail : r ≡ 61 ∷ q = cc in
    let bad : continues token 61 ≡ false = rw tail at longest in
    let good : continues token 61 ≡ true = same 61 in
    cc

abbrev comparison_byte : Comparison → ℕ
comparison_byte Equals = 61
comparison_byte Differs = 33
comparison_byte IsLess = 60
comparison_byte IsAtMost = 60
comparison_byte IsGreater = 62
comparison_byte IsAtLeast = 62

abbrev comparison_rest : Comparison → List ℕ
comparison_rest Equals = 61 ∷ []
comparison_rest Differs = 61 ∷ []
comparison_rest IsLess = []
comparison_rest IsAtMost = 61 ∷ []
comparison_rest IsGreater = []
comparison_rest IsAtLeast = 61 ∷ []

comparison_parts : (c : Comparison) → comparison_text c ≡ comparison_byte c ∷ comparison_rest c
comparison_parts Equals = refl
comparison_parts Differs = refl
comparison_parts IsLess = refl
comparison_parts IsAtMost = refl
comparison_parts IsGreater = refl
comparison_parts IsAtLeast = refl

one_comparison : (c d : Comparison) (s t r q : List ℕ) → s ≡ comparison_text c → t ≡ comparison_text d
    → IsLongest (Relates c) r → IsLongest (Relates d) q → s ++ r ≡ t ++ q → (s ≡ t) × (Relates c ≡ Relates d)
one_comparison c d s t r q h g lr lq e = go c d first h g lr lq
  where
    whole : comparison_byte c ∷ (comparison_rest c ++ r) ≡ comparison_byte d ∷ (comparison_rest d ++ q)
    whole = ap (λ z. z ++ r) (sym (h ∙ comparison_parts c)) ∙ e ∙ ap (λ z. z ++ q) (g ∙ comparison_parts d)

    first : comparison_byte c ≡ comparison_byte d
    first = cc whole

    go : (c d : Comparison) → comparison_byte c ≡ comparison_byte d → s ≡ comparison_text c → t ≡ comparison_text d
        → IsLongest (Relates c) r → IsLongest (Relates d) q → (s ≡ t) × (Relates c ≡ Relates d)
    go Equals Equals k h g lr lq = (h ∙ sym g, refl)
    go Differs Differs k h g lr lq = (h ∙ sym g, refl)
    go IsLess IsLess k h g lr lq = (h ∙ sym g, refl)
    go IsAtMost IsAtMost k h g lr lq = (h ∙ sym g, refl)
    go IsGreater IsGreater k h g lr lq = (h ∙ sym g, refl)
    go IsAtLeast IsAtLeast k h g lr lq = (h ∙ sym g, refl)
    go IsLess IsAtMost k h g lr lq = absurd (no_longer s t r q 60 (Relates IsLess) (λ other. refl) h g lr e)
    go IsAtMost IsLess k h g lr lq = absurd (no_longer t s q r 60 (Relates IsLess) (λ other. refl) g h lq (sym e))
    go IsGreater IsAtLeast k h g lr lq = absurd (no_longer s t r q 62 (Relates IsGreater) (λ other. refl) h g lr e)
    go IsAtLeast IsGreater k h g lr lq =
        absurd (no_longer t s q r 62 (Relates IsGreater) (λ other. refl) g h lq (sym e))
    go _ _ k h g lr lq = absurd (omega arith)

abbrev sign_byte : Sign → ℕ
sign_byte Plus = 43
sign_byte Minus = 45

one_sign : (a b : Sign) (s t r q : List ℕ) → s ≡ sign_text a → t ≡ sign_text b → s ++ r ≡ t ++ q
    → (s ≡ t) × (Signs a ≡ Signs b)
one_sign Plus Plus s t r q h g e = (h ∙ sym g, refl)
one_sign Minus Minus s t r q h g e = (h ∙ sym g, refl)
one_sign Plus Minus s t r q h g e =
    absurd (let bad : ◌≡◌ {A = List ℕ} (43 ∷ r) (45 ∷ q) = ap (λ z. z ++ r) (sym h) ∙ e ∙ ap (λ z. z ++ q) g in
    let num : ◌≡◌ {A = ℕ} 43 45 = cc in omega arith)
one_sign Minus Plus s t r q h g e =
    absurd (let bad : ◌≡◌ {A = List ℕ} (45 ∷ r) (43 ∷ q) = ap (λ z. z ++ r) (sym h) ∙ e ∙ ap (λ z. z ++ q) g in
    let num : ◌≡◌ {A = ℕ} 45 43 = cc in omega arith)

one_token : (a b : Token) (s t r q : List ℕ) → class a ≡ class b → IsSpelling s a → IsSpelling t b → IsLongest a r
    → IsLongest b q → s ++ r ≡ t ++ q → (s ≡ t) × (a ≡ b)
one_token (Word w) (Word v) s t r q k h g lr lq e =
    let same =
    word_run s t r q h.0 g.0 (fails_of_longest is_in_word (Word w) r (λ byte. refl) lr)
    (fails_of_longest is_in_word (Word v) q (λ byte. refl) lq) e in
    (same, ap (λ z. Word z) (h.1 ∙ same ∙ sym g.1))
one_token (Digits n) (Digits m) s t r q k h g lr lq e =
    let same =
    digits_run s t r q h.0 g.0 (fails_of_longest is_digit (Digits n) r (λ byte. refl) lr)
    (fails_of_longest is_digit (Digits m) q (λ byte. refl) lq) e in
    (same, ap (λ z. Digits z) (h.1 ∙ ap (number_from 0) same ∙ sym g.1))
one_token OpenParen OpenParen s t r q k h g lr lq e = (h ∙ sym g, refl)
one_token CloseParen CloseParen s t r q k h g lr lq e = (h ∙ sym g, refl)
one_token (Relates c) (Relates d) s t r q k h g lr lq e = one_comparison c d s t r q h g lr lq e
one_token (Signs a) (Signs b) s t r q k h g lr lq e = one_sign a b s t r q h g e
one_token Star Star s t r q k h g lr lq e = (h ∙ sym g, refl)
one_token Dot Dot s t r q k h g lr lq e = (h ∙ sym g, refl)
one_token End b s t r q k h g lr lq e = absurd h
one_token a End s t r q k h g lr lq e = absurd g
one_token _ _ s t r q k h g lr lq e = absurd (omega arith)

-- ---- whole texts

-- after the tokens stands nothing, or a byte that is no space and begins no token
data Stuck : List ℕ → Type 0 where
  at_end : Stuck []
  at_stray : {byte : ℕ} {rest : List ℕ} → is_space byte ≡ false → BeginsNoToken (byte ∷ rest) → Stuck (byte ∷ rest)

fails_of_stuck : {rest : List ℕ} → Stuck rest → Fails is_space rest
fails_of_stuck at_end = at_end
fails_of_stuck (at_stray h none) = at_byte h

fails_of_token : (s others : List ℕ) (t : Token) → Starts s t → Fails is_space (s ++ others)
fails_of_token s others t f = subst (λ z. Fails is_space (z ++ others)) (sym f.parts) (at_byte f.no_space)

no_token_there : {rest : List ℕ} (s others : List ℕ) (t : Token) → Stuck rest → IsSpelling s t → rest ≡ s ++ others → ⊥
no_token_there s others t at_end h e = let f = starts s t h in let bad : [] ≡ f.byte ∷ (f.rest ++ others) =
    e ∙ ap (λ z. z ++ others) f.parts in cc
no_token_there s others t (at_stray k none) h e = none s others t e h

one_lexing : (at : ℕ) (bytes : List ℕ) (ts us : List Placed) (end end' : ℕ) (rest rest' : List ℕ) → Stuck rest
    → Stuck rest' → Lexes at bytes ts end rest → Lexes at bytes us end' rest' → (ts ≡ us) × (end ≡ end')
    × (rest ≡ rest')
one_lexing at bytes [] [] end end' rest rest' sr sq (sp, h, e, k) (sp', h', e', k') =
    let run = one_run is_space sp sp' rest rest' h h' (fails_of_stuck sr) (fails_of_stuck sq) (sym e ∙ e') in
    (refl, k ∙ ap (λ z. at + length z) run.0 ∙ sym k', run.1)
one_lexing at bytes [] (u ∷ us) end end' rest rest' sr sq (sp, h, e, k) (sp', s', o', h', e', a', k', l', m') =
    let run =
    one_run is_space sp sp' rest (s' ++ o') h h' (fails_of_stuck sr)
    (fails_of_token s' o' u.token (starts s' u.token k')) (sym e ∙ e') in
    absurd (no_token_there s' o' u.token sr k' run.1)
one_lexing at bytes (t ∷ ts) [] end end' rest rest' sr sq (sp, s, o, h, e, a, k, l, m) (sp', h', e', k') =
    let run =
    one_run is_space sp sp' (s ++ o) rest' h h' (fails_of_token s o t.token (starts s t.token k))
    (fails_of_stuck sq) (sym e ∙ e') in
    absurd (no_token_there s o t.token sq k (sym run.1))
one_lexing at bytes (t ∷ ts) (u ∷ us) end end' rest rest' sr sq (sp, s, o, h, e, a, k, l, m) (
  sp',
  s',
  o',
  h',
  e',
  a',
  k',
  l',
  m',
) =
    let run =
    one_run is_space sp sp' (s ++ o) (s' ++ o') h h' (fails_of_token s o t.token (starts s t.token k))
    (fails_of_token s' o' u.token (starts s' u.token k')) (sym e ∙ e') in
    let same =
    one_token t.token u.token s s' o o'
    (same_class s s' o o' t.token u.token (starts s t.token k) (starts s' u.token k') run.1) k k' l l' run.1 in
    let place : t.at ≡ u.at = a ∙ ap (λ z. at + length z) run.0 ∙ sym a' in
    let others : o ≡ o' = cancel s (run.1 ∙ ap (λ z. z ++ o') (sym same.0)) in
    let later =
    one_lexing (t.at + length s) o ts us end end' rest rest' sr sq m
    (moved (sym place) (sym same.0) (sym others) m') in
    (ap (λ z. z ∷ ts) (λ i. record { at = place i; token = same.1 i }) ∙ ap (λ z. u ∷ z) later.0, later.1, later.2)
  where
    cancel : (xs : List ℕ) {ys zs : List ℕ} → xs ++ ys ≡ xs ++ zs → ys ≡ zs
    cancel [] e = e
    cancel (x ∷ xs) e = cancel xs (cc)

    moved : {a b : ℕ} {s s' : List ℕ} {o o' : List ℕ} → b ≡ a → s' ≡ s → o' ≡ o → Lexes (b + length s') o' us end' rest'
        → Lexes (a + length s) o us end' rest'
    moved p q r m = subst₃ (λ a s o. Lexes (a + length s) o us end' rest') p q r m

pub one_token_list : (text : List ℕ) (all others : List Placed) → AreTokens text all → AreTokens text others
    → all ≡ others
one_token_list text all others (ts, e, l) (us, f, m) =
    e ∙ ap (λ z. z ++ placed (length text + 1) End ∷ [])
    (one_lexing 1 text ts us (length text + 1) (length text + 1) [] [] at_end at_end l m).0 ∙ sym f

pub no_stray : (text : List ℕ) (all : List Placed) (at : ℕ) → AreTokens text all → IsStray text at → ⊥
no_stray text all at (ts, e, l) stray =
    let same =
    one_lexing 1 text ts stray.tokens (length text + 1) at [] (stray.byte ∷ stray.rest) at_end
    (at_stray stray.no_space stray.no_token) l stray.before in
    let bad : [] ≡ stray.byte ∷ stray.rest = same.2 in
    cc

pub one_stray : (text : List ℕ) (at other : ℕ) → IsStray text at → IsStray text other → at ≡ other
one_stray text at other a b =
    (one_lexing 1 text a.tokens b.tokens at other (a.byte ∷ a.rest) (b.byte ∷ b.rest) (at_stray a.no_space a.no_token)
    (at_stray b.no_space b.no_token) a.before b.before).1
