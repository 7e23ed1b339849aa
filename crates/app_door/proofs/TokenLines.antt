-- Lines that may be a token.
use Rattle.std.proofs.Common.{◌≡◌, ◌∙◌, ◌+◌, ◌≤◌, ◌==◌, ℕ, List, [], ◌∷◌, ◌++◌, Option, Some, None, refl, ap, sym, subst, drop, length, true, false, slice_index_or, arith}
use Rattle.std.proofs.Math.Seq.{drop-append-add}
use Rattle.std.proofs.lemmas.List.{length-append}
use Rattle.def_format.specs.Lines.{all_lines, as_line, has_line_feed, line_feed, unended_line}
use Rattle.def_format.proofs.LineFacts.{no_ended_lines, or_false, unended-no_feed}
use Rattle.app_text.specs.Lines.{IsCut, without_cr}
use Rattle.app_door.specs.Doors.{IsAfterToken, IsStart, IsToken}

first_of_one : (line : List ℕ) → without_cr (slice_index_or (as_line line) 0 []) ≡ without_cr line
first_of_one [] = refl
first_of_one (byte ∷ rest) = refl

-- a line with no line feed in it is its own first line
pub bare_of_line : (line : List ℕ) → has_line_feed line ≡ false
    → without_cr (slice_index_or (all_lines line) 0 []) ≡ without_cr line
bare_of_line line h =
    ap (λ (ended : List (List ℕ)). without_cr (slice_index_or (ended ++ as_line (unended_line line)) 0 []))
    (no_ended_lines line h)
    ∙ (ap (λ (last : List ℕ). without_cr (slice_index_or (as_line last) 0 [])) (unended-no_feed line h)
    ∙ first_of_one line)

-- bytes with a line feed are cut at one
pub cut_of_feed : (bytes line : List ℕ) (after : Option (List ℕ)) → IsCut bytes line after
    → has_line_feed bytes ≡ true
    → (rest : List ℕ) × (bytes ≡ line ++ line_feed ∷ rest) × (has_line_feed line ≡ false)
cut_of_feed bytes line None cut feed =
    let none : has_line_feed bytes ≡ false = cut.1 in
    absurd (cc)
cut_of_feed bytes line (Some rest) cut feed = (rest, cut.0, cut.1)

-- what comes after a line that is the token
pub after_line : (token line rest bytes : List ℕ) → bytes ≡ line ++ line_feed ∷ rest → has_line_feed line ≡ false
    → IsToken token line → (length line + 1 ≤ length bytes) × IsAfterToken token (drop (length line + 1) bytes) bytes
after_line token line rest bytes is no_feed said =
    let after : drop (length line + 1) bytes ≡ rest
    = ap (λ (all : List ℕ). drop (length line + 1) all) is ∙ drop-append-add line (line_feed ∷ rest) 1 in
    let whole : bytes ≡ line ++ line_feed ∷ drop (length line + 1) bytes
    = is ∙ ap (λ (more : List ℕ). line ++ line_feed ∷ more) (sym after) in
    let long : length bytes ≡ length line + length (line_feed ∷ rest)
    = ap (λ (all : List ℕ). length all) is ∙ length-append line (line_feed ∷ rest) in
    (omega (arith, long), (line, whole, no_feed, said))

not_feed : (byte : ℕ) (rest : List ℕ) → has_line_feed (byte ∷ rest) ≡ false → byte ≡ line_feed → ⊥
not_feed byte rest h is =
    let other : (byte == line_feed) ≡ false = (or_false (byte == line_feed) (has_line_feed rest) h).0 in
    let same : (line_feed == line_feed) ≡ false = subst (λ (n : ℕ). (n == line_feed) ≡ false) is other in
    absurd (cc)

-- bytes have one first line
pub same_line : (xs ys more others : List ℕ) → xs ++ line_feed ∷ more ≡ ys ++ line_feed ∷ others
    → has_line_feed xs ≡ false
    → has_line_feed ys ≡ false → xs ≡ ys
same_line [] [] more others is hx hy = refl
same_line [] (y ∷ ys) more others is hx hy = absurd (not_feed y ys hy (cc))
same_line (x ∷ xs) [] more others is hx hy = absurd (not_feed x xs hx (cc))
same_line (x ∷ xs) (y ∷ ys) more others is hx hy =
    let same : xs ≡ ys = same_line xs ys more others (cc) (or_false (x == line_feed) (has_line_feed xs) hx).1
    (or_false (y == line_feed) (has_line_feed ys) hy).1 in
    cc

-- bytes whose first line isn't the token don't begin with it
pub no_token : (token line rest bytes start : List ℕ) → bytes ≡ line ++ line_feed ∷ rest → has_line_feed line ≡ false
    → (IsToken token line → ⊥) → IsAfterToken token start bytes → ⊥
no_token token line rest bytes start is no_feed other (first, first_is, first_no_feed, said) =
    let same : first ≡ line = same_line first line start rest (sym first_is ∙ is) first_no_feed no_feed in
    other (subst (λ (text : List ℕ). IsToken token text) same said)

abbrev IsCutAt : (line bytes : List ℕ) → Type 0
IsCutAt line bytes = (rest : List ℕ) × (bytes ≡ line ++ line_feed ∷ rest) × (has_line_feed line ≡ false)

-- the same of a token that is due: what comes after its line
pub start_of : (due : Option (List ℕ)) (token shown line bytes : List ℕ) (count : ℕ) → due ≡ Some token
    → shown ≡ token → IsCutAt line bytes → IsToken shown line → length line + 1 ≡ count
    → (count ≤ length bytes) × IsStart due (drop count bytes) bytes
start_of due token shown line bytes count is same (rest, cut, no_feed) said long =
    let said_token : IsToken token line = subst (λ (text : List ℕ). IsToken text line) same said in
    let after = after_line token line rest bytes cut no_feed said_token in
    let begun : IsStart due (drop (length line + 1) bytes) bytes
    = subst (λ (one : Option (List ℕ)). IsStart one (drop (length line + 1) bytes) bytes) (sym is) after.1 in
    subst (λ (n : ℕ). (n ≤ length bytes) × IsStart due (drop n bytes) bytes) long (after.0, begun)

-- and that nothing does
pub no_start_of : (due : Option (List ℕ)) (token shown line bytes start : List ℕ) → due ≡ Some token
    → shown ≡ token → IsCutAt line bytes → (IsToken shown line → ⊥) → IsStart due start bytes → ⊥
no_start_of due token shown line bytes start is same (rest, cut, no_feed) other begun =
    let after : IsAfterToken token start bytes
    = subst (λ (one : Option (List ℕ)). IsStart one start bytes) is begun in
    no_token token line rest bytes start cut no_feed
    (λ said. other (subst (λ (text : List ℕ). IsToken text line) (sym same) said)) after
