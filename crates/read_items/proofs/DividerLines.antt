-- Lines that divide items, with their LFs and without.
use Rattle.std.proofs.Common.{◌≡◌, ◌<◌, ℕ, Bool, true, false, List, [], ◌∷◌, ◌++◌, codes, length, refl, sym, ap, ◌∙◌, arith}
use Rattle.std.specs.Prelude.{◌==◌, ◌&&◌, ◌||◌}
use Rattle.std.specs.List.{list_any}
use Rattle.std.specs.Str.{bytes_eq}
use Rattle.def_format.specs.Lines.{has_line_feed}
use Rattle.def_format.proofs.LineFacts.{or_false}
use Rattle.read_items.specs.Items.{is_divider, with_line_feed}

and_false : (b : Bool) → (b && false) ≡ false
and_false true = refl
and_false false = refl

none : (a b : Bool) → a ≡ false → b ≡ false → (a || b) ≡ false
none true b e f = e
none false b e f = f

-- ---- an LF at the end

not_longer : (other : List ℕ) → bytes_eq [] (other ++ 10 ∷ []) ≡ false
not_longer [] = refl
not_longer (y ∷ other) = refl

not_shorter : (line : List ℕ) → bytes_eq (line ++ 10 ∷ []) [] ≡ false
not_shorter [] = refl
not_shorter (x ∷ line) = refl

-- both with one
pub both_ended : (line other : List ℕ) → bytes_eq (line ++ 10 ∷ []) (other ++ 10 ∷ []) ≡ bytes_eq line other
both_ended [] [] = refl
both_ended [] (y ∷ other) = rw (not_longer other) (and_false (10 == y))
both_ended (x ∷ line) [] = rw (not_shorter line) (and_false (x == 10))
both_ended (x ∷ line) (y ∷ other) = ap (λ b. (x == y) && b) (both_ended line other)

-- the one with an LF, the other without
pub first_ended : (line other : List ℕ) → list_any (λ byte. 10 == byte) other ≡ false
    → bytes_eq (line ++ 10 ∷ []) other ≡ false
first_ended [] [] without = refl
first_ended (x ∷ line) [] without = refl
first_ended [] (y ∷ other) without =
    ap (λ b. b && bytes_eq [] other) (or_false (10 == y) (list_any (λ byte. 10 == byte) other) without).0
first_ended (x ∷ line) (y ∷ other) without =
    ap (λ b. (x == y) && b)
    (first_ended line other (or_false (10 == y) (list_any (λ byte. 10 == byte) other) without).1) ∙ and_false (x == y)

pub other_ended : (line other : List ℕ) → has_line_feed line ≡ false → bytes_eq line (other ++ 10 ∷ []) ≡ false
other_ended [] other without = not_longer other
other_ended (x ∷ line) [] without =
    ap (λ b. b && bytes_eq line []) (or_false (x == 10) (has_line_feed line) without).0
other_ended (x ∷ line) (y ∷ other) without =
    ap (λ b. (x == y) && b) (other_ended line other (or_false (x == 10) (has_line_feed line) without).1)
    ∙ and_false (x == y)

-- ---- lines that divide

-- whether a line without its LF divides
abbrev pub marks : List ℕ → Bool
marks line = bytes_eq line (codes "===") || bytes_eq line (codes "===\r")

first_two : (a b c d : Bool) → a ≡ false → b ≡ false → (a || (b || (c || (d || false)))) ≡ (c || d)
first_two a b true d e f = rw (e, f) refl
first_two a b false true e f = rw (e, f) refl
first_two a b false false e f = rw (e, f) refl

last_two : (a b c d : Bool) → c ≡ false → d ≡ false → (a || (b || (c || (d || false)))) ≡ (a || b)
last_two true b c d e f = refl
last_two false true c d e f = refl
last_two false false c d e f = rw (e, f) refl

pub ended_divider : (line : List ℕ) → marks line ≡ is_divider (with_line_feed line)
ended_divider line =
    sym (first_two _ _ _ _ (first_ended line (codes "===") refl) (first_ended line (codes "===\r") refl)
    ∙ ap (λ a. a || bytes_eq (line ++ 10 ∷ []) (codes "===\r\n")) (both_ended line (codes "==="))
    ∙ ap (λ b. bytes_eq line (codes "===") || b) (both_ended line (codes "===\r")))

-- the first of the two isn't the line, so the other one decides
pub by_second : (line first second : List ℕ) (is_first is_second : Bool) → first ≡ codes "==="
    → second ≡ codes "===\r" → is_first ≡ bytes_eq line first → is_second ≡ bytes_eq line second → is_first ≡ false
    → is_second ≡ is_divider (with_line_feed line)
by_second line first second is_first is_second one other of_first of_second none =
    of_second ∙ ap (bytes_eq line) other
    ∙ ap (λ b. b || bytes_eq line (codes "===\r")) (sym none ∙ of_first ∙ ap (bytes_eq line) one)
    ∙ ended_divider line

pub unended_divider : (line : List ℕ) → has_line_feed line ≡ false → marks line ≡ is_divider line
unended_divider line without =
    sym (last_two (bytes_eq line (codes "===")) (bytes_eq line (codes "===\r")) _ _
    (other_ended line (codes "===") without) (other_ended line (codes "===\r") without))

-- ---- long lines

longer : (line other : List ℕ) → length other < length line → bytes_eq line other ≡ false
longer [] other more = absurd (omega arith)
longer (x ∷ line) [] more = refl
longer (x ∷ line) (y ∷ other) more =
    ap (λ b. (x == y) && b) (longer line other (omega arith)) ∙ and_false (x == y)

pub long_divides_nothing : (line : List ℕ) → 5 < length line → is_divider line ≡ false
long_divides_nothing line more =
    none _ _ (longer line (codes "===") (let short : length (codes "===") ≡ 3 = refl in omega (arith, short)))
    (none _ _ (longer line (codes "===\r") (let short : length (codes "===\r") ≡ 4 = refl in omega (arith, short)))
    (none _ _ (longer line (codes "===\n") (let short : length (codes "===\n") ≡ 4 = refl in omega (arith, short)))
    (none _ _ (longer line (codes "===\r\n")
    (let short : length (codes "===\r\n") ≡ 5 = refl in omega (arith, short))) refl)))
