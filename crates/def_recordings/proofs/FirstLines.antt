-- The first of the lines of some bytes.
use Rattle.std.proofs.Common.{◌≡◌, ℕ, ◌<◌, Bool, true, false, List, [], ◌∷◌, ◌++◌, length, refl, length-append, arith}
use Rattle.std.specs.Prelude.{◌==◌, ◌||◌}
use Rattle.def_format.specs.Lines.{all_lines, ended_lines, has_line_feed, line_feed, unended_line}
use Rattle.def_format.proofs.LineFacts.{no_ended_lines, or_false, unended-no_feed}

or_true : (b : Bool) → (b || true) ≡ true
or_true true = refl
or_true false = refl

has_feed : (part rest : List ℕ) → has_line_feed (part ++ 10 ∷ rest) ≡ true
has_feed [] rest = refl
has_feed (x ∷ part) rest = rw (has_feed part rest) (or_true (x == line_feed))

ended : (part rest : List ℕ) → has_line_feed part ≡ false → ended_lines (part ++ 10 ∷ rest) ≡ part ∷ ended_lines rest
ended [] rest none = refl
ended (x ∷ part) rest none =
    let both = or_false (x == line_feed) (has_line_feed part) none in rw (both.0, ended part rest both.1) refl

pub unended : (part rest : List ℕ) → unended_line (part ++ 10 ∷ rest) ≡ unended_line rest
unended [] rest = refl
unended (x ∷ part) rest = rw (has_feed (x ∷ part) rest) (unended part rest)

-- a part that an LF ends is the first line
pub first_line : (bytes part rest : List ℕ) → bytes ≡ part ++ 10 ∷ rest → has_line_feed part ≡ false
    → all_lines bytes ≡ part ∷ all_lines rest
first_line bytes part rest e none = rw (e, ended part rest none, unended part rest) refl

pub shorter : (bytes part rest : List ℕ) → bytes ≡ part ++ 10 ∷ rest → length rest < length bytes
shorter bytes part rest e = rw e (omega (arith, length-append part (10 ∷ rest)))

-- bytes without LF are one line
pub one_line : (bytes : List ℕ) → 0 < length bytes → has_line_feed bytes ≡ false → all_lines bytes ≡ bytes ∷ []
one_line [] some none = absurd (omega arith)
one_line (x ∷ rest) some none = rw (no_ended_lines (x ∷ rest) none, unended-no_feed (x ∷ rest) none) refl

-- no bytes are no line
pub no_lines : (bytes : List ℕ) → length bytes ≡ 0 → all_lines bytes ≡ []
no_lines [] none = refl
no_lines (x ∷ rest) none = absurd (omega arith)
