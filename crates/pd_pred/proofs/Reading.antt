-- How many tokens a text has.
use Rattle.std.proofs.Common.{ℕ, ◌+◌, ◌<◌, ◌≤◌, List, [], ◌∷◌, ◌++◌, length, ◌∙◌, ap, arith, length-append}
use Rattle.std.proofs.lemmas.List.{length-map}
use Rattle.def_format.specs.Tokens.{Token, End, Placed, placed, Lexes, AreTokens, IsSpelling}
use Rattle.def_format.specs.Limits.{predicate_byte_limit}
use Rattle.pd_pred.specs.Tokens.{placed_view, lexed_view}
use Rattle.pd_pred.specs.declared.token.Placed.{Placed as Code}
use Rattle.pd_pred.proofs.Symbols.{not_empty}

some_bytes : (spelling : List ℕ) (t : Token) → IsSpelling spelling t → 0 < length spelling
some_bytes [] t h = absurd (not_empty t h)
some_bytes (x ∷ spelling) t h = omega arith

few_lexed : (at : ℕ) (bytes : List ℕ) (tokens : List Placed) (end : ℕ) (rest : List ℕ) → Lexes at bytes tokens end rest
    → length tokens ≤ length bytes
few_lexed at bytes [] end rest l = omega arith
few_lexed at bytes (t ∷ tokens) end rest l =
    let later = few_lexed (t.at + length l.1) l.2 tokens end rest l.8 in
    let some = some_bytes l.1 t.token l.6 in
    let all = ap length l.4 ∙ length-append l.0 (l.1 ++ l.2) in
    let inner = length-append l.1 l.2 in
    omega arith

-- a text has no more tokens than bytes, and the end
pub few_tokens : (text : List ℕ) (items : List Code) → length text ≤ predicate_byte_limit
    → AreTokens text (lexed_view items)
    → length items ≤ predicate_byte_limit + 1
few_tokens text items short l =
    let few = few_lexed 1 text l.0 (length text + 1) [] l.2 in
    let whole = ap length l.1 ∙ length-append l.0 (placed (length text + 1) End ∷ []) in
    let same = length-map items placed_view in
    omega arith
