-- What some bytes are lexed to, by what stands first.
use Rattle.std.proofs.Common.{◌≡◌, ℕ, zero, suc, ◌+◌, ◌<◌, Bool, true, false, cond, List, [], ◌∷◌, ◌++◌, length, get_or, take, Some, refl, sym, ap, ◌∙◌, arith}
use Rattle.std.proofs.lemmas.List.{take_more}
use Rattle.std.proofs.lemmas.List.Elements.{All-append}
use Rattle.std.specs.Prelude.{All}
use Rattle.std.proofs.lemmas.Bool.{ne_eqb, le-ltb}
use Rattle.json.specs.Text.{content, plain}
use Rattle.json.specs.Token.{string}
use Rattle.json.specs.Lex.{Lexeme, token, quote, backslash, operator, space, other, Mode, between, in_string, lex, lex_byte}
use Rattle.read_tokens.specs.Runs.{IsPlain}

pub blank_first : (xs : List ℕ) → lex between (32 ∷ xs) ≡ lex between xs
unfolding lex
blank_first xs = refl

pub tab_first : (xs : List ℕ) → lex between (9 ∷ xs) ≡ lex between xs
unfolding lex
tab_first xs = refl

pub return_first : (xs : List ℕ) → lex between (13 ∷ xs) ≡ lex between xs
unfolding lex
return_first xs = refl

-- ---- a text

rest_plain : (x : ℕ) (text : List ℕ) → All IsPlain (x ∷ text) → All IsPlain text
rest_plain x text all = λ k d h. all (suc k) d (omega arith)

-- plain bytes stand for themselves, up to the closing quote
text_content : (text after : List ℕ) → All IsPlain text → content plain (text ++ 34 ∷ after) ≡ Some text
unfolding content
text_content [] after all = refl
text_content (x ∷ text) after all =
    let here = all 0 0 (omega arith) in
    rw (
      ne_eqb x 34 here.1,
      ne_eqb x 92 here.2,
      le-ltb x 32 here.0,
      text_content text after (rest_plain x text all),
    ) refl

in_text : (q b o s : Bool) (x : ℕ) (xs : List ℕ) (k : Mode → List Lexeme) → q ≡ false → b ≡ false
    → lex_byte in_string (cond q quote (cond b backslash (cond o operator (cond s space other)))) x xs k ≡ k in_string
in_text true b o s x xs k e f = absurd (cc)
in_text false true o s x xs k e f = absurd (cc)
in_text false false true s x xs k e f = refl
in_text false false false true x xs k e f = refl
in_text false false false false x xs k e f = refl

passed_text : (text after : List ℕ) → All IsPlain text → lex in_string (text ++ 34 ∷ after) ≡ lex between after
unfolding lex
passed_text [] after all = refl
passed_text (x ∷ text) after all =
    let here = all 0 0 (omega arith) in
    in_text _ _ _ _ x (text ++ 34 ∷ after) (λ next. lex next (text ++ 34 ∷ after)) (ne_eqb x 34 here.1)
    (ne_eqb x 92 here.2)
    ∙ passed_text text after (rest_plain x text all)

pub text_lexed : (text after : List ℕ) → All IsPlain text
    → lex between (34 ∷ (text ++ 34 ∷ after)) ≡ token (string text) ∷ lex between after
unfolding lex
text_lexed text after all = rw (text_content text after all, passed_text text after all) refl

-- ---- as the functions have them

pub passes : (b : ℕ) (bytes after : List ℕ) → bytes ≡ b ∷ after → lex between (b ∷ after) ≡ lex between after
    → (length after < length bytes) × (lex between after ≡ lex between bytes)
passes b bytes after is e = (omega (arith, ap length is), rw is (sym e))

one_plain : (x : ℕ) → IsPlain x → All IsPlain (x ∷ [])
one_plain x is zero d h = is
one_plain x is (suc k) d h = absurd (omega arith)

pub plain_more : (bytes : List ℕ) (count : ℕ) → count < length bytes → All IsPlain (take count bytes)
    → IsPlain (get_or bytes count 0) → All IsPlain (take (count + 1) bytes)
plain_more bytes count below all is =
    rw (take_more bytes count 0 below) (All-append IsPlain (take count bytes) (get_or bytes count 0 ∷ []) all
    (one_plain (get_or bytes count 0) is))
