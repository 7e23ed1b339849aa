-- How far a text has been taken apart, token by token from its prefix.
use Rattle.std.proofs.Common.{◌≡◌, ℕ, ◌+◌, ◌<◌, ◌≤◌, List, [], ◌∷◌, ◌++◌, length, refl, sym, ◌∙◌, ap, subst, arith, length-append}
use Rattle.std.specs.Prelude.{IsFalse}
use Rattle.std.proofs.lemmas.List.{map_push, nil_from_length}
use Rattle.def_format.specs.Tokens.{Token, End, Placed, placed, Lexes, AreTokens, IsStray, BeginsNoToken, is_space}
use Rattle.pd_pred.specs.Lexing.{IsFirstToken, SkipsSpaces}
use Rattle.pd_pred.specs.Tokens.{token_view, placed_view, lexed_view}
use Rattle.pd_pred.specs.declared.token.Placed.{Placed as Code}
use Rattle.pd_pred.specs.declared.token.Token.TheVariants.{End as TheEnd}

-- the text is these tokens, and then a rest that begins with no space
pub record IsLexedTo (text : List ℕ) (tokens : List Placed) (rest : List ℕ) : Type 0 where
  pub at : ℕ
  pub from_one : 1 ≤ at
  pub place : at + length rest ≡ length text + 1
  pub lexed : Lexes 1 text tokens at rest
  pub no_space : (byte : ℕ) (others : List ℕ) → rest ≡ byte ∷ others → IsFalse (is_space byte)

-- one token more at the end
lexes_push : (at : ℕ) (bytes : List ℕ) (tokens : List Placed) (end : ℕ) (rest others new : List ℕ) (token : Token)
    (first : IsFirstToken rest token others) (skip : SkipsSpaces others new) → Lexes at bytes tokens end rest
    → Lexes at bytes (tokens ++ placed end token ∷ []) (end + length first.spelling + length skip.spaces) new
lexes_push at bytes [] end rest others new token first skip (spaces, h, e, k) = (
  spaces,
  first.spelling,
  others,
  h,
  e ∙ ap (λ z. spaces ++ z) first.parts,
  k,
  first.spells,
  first.longest,
  (skip.spaces, skip.are_spaces, skip.parts, refl),
)
lexes_push at bytes (t ∷ tokens) end rest others new token first skip
    (spaces, spelling, following, h, e, a, k, l, m) = (
      spaces,
      spelling,
      following,
      h,
      e,
      a,
      k,
      l,
      lexes_push (t.at + length spelling) following tokens end rest others new token first skip m,
    )

length_parts : (xs ys zs : List ℕ) → xs ≡ ys ++ zs → length xs ≡ length ys + length zs
length_parts xs ys zs e = ap length e ∙ length-append ys zs

pub lexed_at_start : (text rest : List ℕ) → SkipsSpaces text rest → IsLexedTo text [] rest
lexed_at_start text rest skip = record {
  at = 1 + length skip.spaces;
  from_one = omega arith;
  place = omega (arith, length_parts text skip.spaces rest skip.parts);
  lexed = (skip.spaces, skip.are_spaces, skip.parts, refl);
  no_space = skip.no_more;
}

pub lexed_more : (text : List ℕ) (tokens : List Placed) (rest others new : List ℕ) (at : ℕ) (token : Token)
    → IsLexedTo text tokens rest → at + length rest ≡ length text + 1 → IsFirstToken rest token others
    → SkipsSpaces others new → IsLexedTo text (tokens ++ placed at token ∷ []) new
lexed_more text tokens rest others new at token so_far place first skip = record {
  at = at + length first.spelling + length skip.spaces;
  from_one = omega (arith, so_far.from_one, same);
  place = omega (
    arith,
    length_parts rest first.spelling others first.parts,
    length_parts others skip.spaces new skip.parts,
  );
  lexed = lexes_push 1 text tokens at rest others new token first skip here;
  no_space = skip.no_more;
}
  where
    same : so_far.at ≡ at
    same = omega (arith, so_far.place)

    here : Lexes 1 text tokens at rest
    here = let P : ℕ → Type 0 = λ z. Lexes 1 text tokens z rest in subst P same so_far.lexed

pub all_lexed : (text : List ℕ) (tokens : List Placed) (rest : List ℕ) (at : ℕ) → IsLexedTo text tokens rest → rest ≡ []
    → at + length rest ≡ length text + 1 → AreTokens text (tokens ++ placed at End ∷ [])
all_lexed text tokens rest at so_far e place = (tokens, ap (λ z. tokens ++ placed z End ∷ []) there, whole)
  where
    empty : length rest ≡ 0
    empty = ap length e

    there : at ≡ length text + 1
    there = omega (arith, empty)

    same : so_far.at ≡ length text + 1
    same = omega (arith, so_far.place, empty)

    whole : Lexes 1 text tokens (length text + 1) []
    whole =
        let P : ℕ → Type 0 = λ z. Lexes 1 text tokens z rest in
        let Q : List ℕ → Type 0 = λ z. Lexes 1 text tokens (length text + 1) z in
        subst Q e (subst P same so_far.lexed)

pub lexed_inside : (text : List ℕ) (tokens : List Placed) (rest : List ℕ) → IsLexedTo text tokens rest
    → length rest ≤ length text
lexed_inside text tokens rest so_far = omega (arith, so_far.from_one, so_far.place)

pub stray_at : (text : List ℕ) (tokens : List Placed) (rest : List ℕ) (at : ℕ) → IsLexedTo text tokens rest
    → 0 < length rest → at + length rest ≡ length text + 1 → BeginsNoToken rest → IsStray text at
stray_at text tokens [] at so_far some place none = absurd (omega arith)
stray_at text tokens (byte ∷ others) at so_far some place none =
    let same : so_far.at ≡ at = omega (arith, so_far.place, place) in
    let P : ℕ → Type 0 = λ z. Lexes 1 text tokens z (byte ∷ others) in
    record {
      tokens = tokens;
      byte = byte;
      rest = others;
      before = subst P same so_far.lexed;
      no_space = so_far.no_space byte others refl;
      no_token = none;
    }

-- ---- the same, as the program's tokens stand for those of the text

pub lexed_at_start_in : (text rest : List ℕ) (items : List Code) → items ≡ [] → SkipsSpaces text rest
    → IsLexedTo text (lexed_view items) rest
lexed_at_start_in text rest items e skip =
    let P : List Code → Type 0 = λ z. IsLexedTo text (lexed_view z) rest in
    subst P (sym e) (lexed_at_start text rest skip)

pushed : (items new : List Code) (one : Code) → new ≡ items ++ one ∷ [] → lexed_view items ++ placed_view one ∷ []
    ≡ lexed_view new
pushed items new one e = sym (ap lexed_view e ∙ map_push placed_view items one)

pub lexed_more_in : (text : List ℕ) (items new_items : List Code) (one : Code) (rest others new : List ℕ)
    → new_items ≡ items ++ one ∷ [] → IsLexedTo text (lexed_view items) rest → one.at + length rest ≡ length text + 1
    → IsFirstToken rest (token_view one.token) others → SkipsSpaces others new
    → IsLexedTo text (lexed_view new_items) new
lexed_more_in text items new_items one rest others new e so_far place first skip =
    let P : List Placed → Type 0 = λ z. IsLexedTo text z new in
    subst P (pushed items new_items one e)
    (lexed_more text (lexed_view items) rest others new one.at (token_view one.token) so_far place first skip)

pub all_lexed_in : (text : List ℕ) (items new_items : List Code) (at : ℕ) (rest : List ℕ)
    → new_items ≡ items ++ (record { at = at; token = TheEnd }) ∷ [] → IsLexedTo text (lexed_view items) rest
    → length rest ≡ 0 → at + length rest ≡ length text + 1 → AreTokens text (lexed_view new_items)
all_lexed_in text items new_items at rest e so_far empty place =
    let P : List Placed → Type 0 = λ z. AreTokens text z in
    subst P (pushed items new_items (record { at = at; token = TheEnd }) e)
    (all_lexed text (lexed_view items) rest at so_far (nil_from_length rest empty) place)
