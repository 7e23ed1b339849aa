-- The prefix of tokens and the rest after it.
use Rattle.std.proofs.Common.{◌≡◌, ℕ, ◌+◌, List, [], ◌∷◌, ◌++◌, length, refl, sym, ◌∙◌, ap, append_assoc, length-append, arith}
use Rattle.std.proofs.lemmas.List.{map-append}
use Rattle.def_format.specs.Names.{ProcessNames}
use Rattle.def_format.specs.Tokens.{Token, Word, Dot}
use Rattle.def_format.specs.Tokens as format
use Rattle.def_format.specs.PredicateTexts.{NumbersFit}
use Rattle.pd_pred.specs.Tokens.{placed_view, lexed_view, token_view}
use Rattle.pd_pred.specs.Building.{tokens_view, Follows, AreReadable, IsKnown}
use Rattle.pd_pred.specs.declared.token.Placed.{Placed}

pub tokens_view-append : (xs ys : List Placed) → tokens_view (xs ++ ys) ≡ tokens_view xs ++ tokens_view ys
tokens_view-append [] ys = refl
tokens_view-append (x ∷ xs) ys = ap (λ ts. token_view x.token ∷ ts) (tokens_view-append xs ys)

placed-append : (xs ys : List Placed) → lexed_view (xs ++ ys) ≡ lexed_view xs ++ lexed_view ys
placed-append xs ys = map-append placed_view xs ys

pub tokens_view-parts : (tokens prefix rest : List Placed) → tokens ≡ prefix ++ rest
    → tokens_view tokens ≡ tokens_view prefix ++ tokens_view rest
tokens_view-parts tokens prefix rest parts = ap tokens_view parts ∙ tokens_view-append prefix rest

pub tokens_view-follows : (token : Token) (tokens rest : List Placed) → Follows token tokens rest
    → tokens_view tokens ≡ token ∷ tokens_view rest
tokens_view-follows token tokens rest f = ap tokens_view f.parts ∙ ap (λ t. t ∷ tokens_view rest) f.is

-- fewer tokens follow
pub fewer_follow : (token : Token) (tokens rest : List Placed) → Follows token tokens rest
    → length rest + 1 ≡ length tokens
fewer_follow token tokens rest f = omega (arith, ap length f.parts)

known_rest : (names : List ProcessNames) (tokens prefix rest : List Placed) → tokens ≡ prefix ++ rest
    → ((before after : List Token) (process var : List ℕ) → tokens_view tokens ≡ before ++ Word process ∷ Dot ∷ Word var
    ∷ after → IsKnown names process var) → (before after : List Token) (process var : List ℕ)
    → tokens_view rest ≡ before ++ Word process ∷ Dot ∷ Word var ∷ after → IsKnown names process var
known_rest names tokens prefix rest parts known before after process var e =
    known (tokens_view prefix ++ before) after process var (tokens_view-parts tokens prefix rest parts
    ∙ ap (λ ts. tokens_view prefix ++ ts) e
    ∙ sym (append_assoc (tokens_view prefix) before (Word process ∷ Dot ∷ Word var ∷ after)))

fit_rest : (tokens prefix rest : List Placed) → tokens ≡ prefix ++ rest → NumbersFit (lexed_view tokens)
    → NumbersFit (lexed_view rest)
fit_rest tokens prefix rest parts fit = λ before t after e.
    fit (lexed_view prefix ++ before) t after (ap lexed_view parts ∙ placed-append prefix rest
    ∙ ap (λ (ts : List format.Placed). lexed_view prefix ++ ts) e
    ∙ sym (append_assoc (lexed_view prefix) before (t ∷ after)))

-- what may be assumed of tokens may be assumed of the rest
pub readable_rest : (names : List ProcessNames) (tokens prefix rest : List Placed) → tokens ≡ prefix ++ rest
    → AreReadable names tokens → AreReadable names rest
readable_rest names tokens prefix rest parts r = record {
  known = known_rest names tokens prefix rest parts r.known;
  fit = fit_rest tokens prefix rest parts r.fit;
  few = omega (arith, r.few, ap length parts, length-append prefix rest);
}

pub readable_follows : (names : List ProcessNames) (token : Token) (tokens rest : List Placed)
    → Follows token tokens rest → AreReadable names tokens → AreReadable names rest
readable_follows names token tokens rest f r = readable_rest names tokens (f.first ∷ []) rest f.parts r
