-- A predicate's fault stands in its text or right after it.
use Rattle.std.proofs.Common.{◌≡◌, ℕ, ◌+◌, ◌≤◌, List, [], ◌∷◌, ◌++◌, length, sym, ◌∙◌, ap, subst, length-append, arith}
use Rattle.std.specs.List.{AllByRecursion}
use Rattle.def_format.specs.Limits.{predicate_byte_limit}
use Rattle.def_format.specs.Names.{ProcessNames}
use Rattle.def_format.specs.Tokens.{Placed, End, placed, Lexes, AreTokens}
use Rattle.def_format.specs.PredicateTexts.{PredicateFault, Long, Character, Number, Expected, UnknownName, Depth, HasMisplaced, IsRefusedPredicate}

abbrev StandUpTo : ℕ → List Placed → Type 0
StandUpTo last tokens = AllByRecursion (λ (t : Placed). t.at ≤ last) tokens

lexes_within : (at : ℕ) (bytes : List ℕ) (tokens : List Placed) (end : ℕ) (rest : List ℕ)
    → Lexes at bytes tokens end rest → (at ≤ end) × StandUpTo end tokens × (end + length rest ≡ at + length bytes)
lexes_within at bytes [] end rest (spaces, are, parts, e) =
    let l : length bytes ≡ length spaces + length rest = ap length parts ∙ length-append spaces rest in
    (omega arith, tt, omega arith)
lexes_within at bytes (t ∷ tokens) end rest (spaces, spelling, others, are, parts, here, is, longest, more) =
    let r = lexes_within (t.at + length spelling) others tokens end rest more in
    let l : length bytes ≡ length spaces + length (spelling ++ others) =
    ap length parts ∙ length-append spaces (spelling ++ others) in
    let m : length (spelling ++ others) ≡ length spelling + length others = length-append spelling others in
    let past : t.at + length spelling ≤ end = r.0 in
    let e : end + length rest ≡ (t.at + length spelling) + length others = r.2 in
    (omega arith, (omega arith, r.1), omega arith)

stand_push : (last : ℕ) (tokens : List Placed) (t : Placed) → StandUpTo last tokens → t.at ≤ last
    → StandUpTo last (tokens ++ t ∷ [])
stand_push last [] t all le = (le, tt)
stand_push last (x ∷ tokens) t all le = (all.0, stand_push last tokens t all.1 le)

stand_at : (last : ℕ) (before after : List Placed) (t : Placed) → StandUpTo last (before ++ t ∷ after) → t.at ≤ last
stand_at last [] after t all = all.0
stand_at last (x ∷ before) after t all = stand_at last before after t all.1

token_within : (text : List ℕ) (tokens before after : List Placed) (t : Placed) → AreTokens text tokens
    → tokens ≡ before ++ t ∷ after → t.at ≤ length text + 1
token_within text tokens before after t (lexed, whole, lexes) parts =
    let r = lexes_within 1 text lexed (length text + 1) [] lexes in
    let all : StandUpTo (length text + 1) (lexed ++ placed (length text + 1) End ∷ []) =
    stand_push (length text + 1) lexed (placed (length text + 1) End) r.1 (omega arith) in
    stand_at (length text + 1) before after t
    (subst (StandUpTo (length text + 1)) (sym whole ∙ parts) all)

misplaced_within : (names : List ProcessNames) (text : List ℕ) (fault : PredicateFault) (at : ℕ)
    → HasMisplaced names text fault at → at ≤ predicate_byte_limit + 1
misplaced_within names text fault at h =
    let le : length text ≤ predicate_byte_limit = h.short in
    let t : at ≤ length text + 1 =
    token_within text h.tokens h.before h.after (placed at h.token) h.are_tokens h.first.parts in
    omega arith

pub fault_is_within : (names : List ProcessNames) (text : List ℕ) (fault : PredicateFault) (at : ℕ)
    → IsRefusedPredicate names text fault at → at ≤ predicate_byte_limit + 1
fault_is_within names text Long at (long, e) = omega arith
fault_is_within names text Character at (le, stray) =
    let r = lexes_within 1 text stray.tokens at (stray.byte ∷ stray.rest) stray.before in
    let e : at + length (stray.byte ∷ stray.rest) ≡ 1 + length text = r.2 in
    omega arith
fault_is_within names text Number at h =
    let le : length text ≤ predicate_byte_limit = h.short in
    let t : at ≤ length text + 1 =
    token_within text h.tokens h.before h.after (placed at h.token) h.are_tokens h.first.parts in
    omega arith
fault_is_within names text Expected at h = misplaced_within names text Expected at h
fault_is_within names text UnknownName at h = misplaced_within names text UnknownName at h
fault_is_within names text Depth at h = misplaced_within names text Depth at h
