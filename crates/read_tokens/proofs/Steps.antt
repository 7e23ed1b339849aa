-- The token that comes first, by the first bytes.
use Rattle.std.proofs.Common.{◌≡◌, ◌⊎◌, inl, inr, ℕ, ◌==◌, true, List, [], ◌∷◌, length, refl, sym, ap, ◌∙◌, arith}
use Rattle.std.proofs.lemmas.Bool.{eqb-true}
use Rattle.json.specs.Token.{Token, begin_object, end_object, key, number, string}
use Rattle.json.specs.Lex.{Place, fresh, after_comma, after_key, after_value, token, between, lex, may_begin, may_close, punctuate}
use Rattle.read_tokens.specs.Places.{tokens_at}
use Rattle.read_tokens.specs.Runs.{EndsValue, IsQuoted}
use Rattle.read_tokens.specs.declared.tokens.Place.{Place as Before}
use Rattle.read_tokens.specs.declared.tokens.Place.TheVariants.{Start, Comma, Value}
use Rattle.read_tokens.proofs.Lexing.{text_lexed}

-- where a value or a key may begin
begins : (place : Before) (bytes : List ℕ) (ts : List Token) → (place ≡ Value → ⊥)
    → ((p : Place) → may_begin p ≡ true → punctuate p (lex between bytes) ≡ ts) → tokens_at place bytes ≡ ts
begins Start bytes ts but h = h fresh refl
begins Comma bytes ts but h = h after_comma refl
begins Value bytes ts but h = absurd (but refl)

closes : (place : Before) (bytes : List ℕ) (ts : List Token) → (place ≡ Comma → ⊥)
    → ((p : Place) → may_close p ≡ true → punctuate p (lex between bytes) ≡ ts) → tokens_at place bytes ≡ ts
closes Start bytes ts but h = h fresh refl
closes Comma bytes ts but h = absurd (but refl)
closes Value bytes ts but h = h after_value refl

-- ---- braces and commas

open_brace : (p : Place) (xs : List ℕ) → may_begin p ≡ true
    → punctuate p (lex between (123 ∷ xs)) ≡ begin_object ∷ punctuate fresh (lex between xs)
unfolding lex punctuate
open_brace fresh xs e = refl
open_brace after_value xs e = absurd (cc)
open_brace after_comma xs e = refl
open_brace after_key xs e = absurd (cc)

close_brace : (p : Place) (xs : List ℕ) → may_close p ≡ true
    → punctuate p (lex between (125 ∷ xs)) ≡ end_object ∷ punctuate after_value (lex between xs)
unfolding lex punctuate
close_brace fresh xs e = refl
close_brace after_value xs e = refl
close_brace after_comma xs e = absurd (cc)
close_brace after_key xs e = absurd (cc)

pub comma_passed : (bytes xs : List ℕ) → bytes ≡ 44 ∷ xs
    → tokens_at Comma xs ≡ punctuate after_value (lex between bytes)
unfolding lex punctuate
comma_passed bytes xs e = rw e refl

pub opened : (place : Before) (bytes after xs : List ℕ) → (place ≡ Value → ⊥) → lex between after ≡ lex between bytes
    → after ≡ 123 ∷ xs → tokens_at place bytes ≡ begin_object ∷ tokens_at Start xs
opened place bytes after xs but same is =
    begins place bytes _ but (λ p may. ap (punctuate p) (sym same ∙ ap (lex between) is) ∙ open_brace p xs may)

pub closed : (place : Before) (bytes after xs : List ℕ) (new : List Token) → (place ≡ Comma → ⊥)
    → lex between after ≡ lex between bytes → after ≡ 125 ∷ xs → new ≡ punctuate after_value (lex between xs)
    → tokens_at place bytes ≡ end_object ∷ new
closed place bytes after xs new but same is e =
    rw e (closes place bytes _ but (λ p may. ap (punctuate p) (sym same ∙ ap (lex between) is) ∙ close_brace p xs may))

-- ---- texts and numbers

key_first : (p : Place) (s xs : List ℕ) → may_begin p ≡ true
    → punctuate p (token (string s) ∷ lex between (58 ∷ xs)) ≡ key s ∷ punctuate fresh (lex between xs)
unfolding lex punctuate
key_first fresh s xs e = refl
key_first after_value s xs e = absurd (cc)
key_first after_comma s xs e = refl
key_first after_key s xs e = absurd (cc)

text_first : (p : Place) (s after : List ℕ) → EndsValue after → may_begin p ≡ true
    → punctuate p (token (string s) ∷ lex between after) ≡ string s ∷ punctuate after_value (lex between after)
unfolding lex punctuate
text_first p s after ends may = go p may ends.first
  where
    go : (p : Place) → may_begin p ≡ true → (after ≡ 44 ∷ ends.rest) ⊎ (after ≡ 125 ∷ ends.rest)
        → punctuate p (token (string s) ∷ lex between after) ≡ string s ∷ punctuate after_value (lex between after)
    go fresh may (inl e) = rw e refl
    go fresh may (inr e) = rw e refl
    go after_value may first = absurd (cc)
    go after_comma may (inl e) = rw e refl
    go after_comma may (inr e) = rw e refl
    go after_key may first = absurd (cc)

number_first : (p : Place) (s after : List ℕ) → may_begin p ≡ true
    → punctuate p (token (number s) ∷ lex between after) ≡ number s ∷ punctuate after_value (lex between after)
unfolding punctuate
number_first fresh s after may = refl
number_first after_value s after may = absurd (cc)
number_first after_comma s after may = refl
number_first after_key s after may = absurd (cc)

quoted_lexed : (bytes text after : List ℕ) → IsQuoted bytes text after
    → lex between bytes ≡ token (string text) ∷ lex between after
quoted_lexed bytes text after is = ap (lex between) is.same ∙ text_lexed text after is.plain

pub keyed : (place : Before) (bytes start name after xs : List ℕ) → (place ≡ Value → ⊥)
    → lex between start ≡ lex between bytes → IsQuoted start name after → after ≡ 58 ∷ xs
    → tokens_at place bytes ≡ key name ∷ tokens_at Start xs
keyed place bytes start name after xs but same is e =
    begins place bytes _ but
    (λ p may. ap (punctuate p) (sym same ∙ quoted_lexed start name after is
    ∙ ap (λ ys. token (string name) ∷ lex between ys) e) ∙ key_first p name xs may)

pub texted : (place : Before) (bytes start text after : List ℕ) (new : List Token) → (place ≡ Value → ⊥)
    → lex between start ≡ lex between bytes → IsQuoted start text after → EndsValue after
    → new ≡ punctuate after_value (lex between after) → tokens_at place bytes ≡ string text ∷ new
texted place bytes start text after new but same is ends e =
    rw e (begins place bytes _ but
    (λ p may. ap (punctuate p) (sym same ∙ quoted_lexed start text after is) ∙ text_first p text after ends may))

pub numbered : (place : Before) (bytes start text after : List ℕ) (new : List Token) → (place ≡ Value → ⊥)
    → lex between start ≡ lex between bytes → lex between start ≡ token (number text) ∷ lex between after
    → new ≡ punctuate after_value (lex between after) → tokens_at place bytes ≡ number text ∷ new
numbered place bytes start text after new but same is e =
    rw e (begins place bytes _ but (λ p may. ap (punctuate p) (sym same ∙ is) ∙ number_first p text after may))

empty : (bytes : List ℕ) → (length bytes == 0) ≡ true → bytes ≡ []
empty [] e = refl
empty (x ∷ bytes) e = absurd (omega (arith, eqb-true (length (x ∷ bytes)) 0 e))

pub nothing_left : (place : Before) (bytes after : List ℕ) → place ≡ Value → lex between after ≡ lex between bytes
    → (length after == 0) ≡ true → tokens_at place bytes ≡ []
unfolding lex punctuate
nothing_left place bytes after is same e =
    rw is (ap (punctuate after_value) (sym same ∙ ap (lex between) (empty after e)))
