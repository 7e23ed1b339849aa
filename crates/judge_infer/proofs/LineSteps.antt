-- The first of the lines of some bytes, and what a line says after others.
use Rattle.std.proofs.Common.{◌≡◌, ℕ, ◌+◌, ◌<◌, Bool, true, false, List, [], ◌∷◌, ◌++◌, length, refl, add-one, length-append, arith}
use Rattle.std.specs.Prelude.{◌==◌, ◌||◌, Ok, Err}
use Rattle.def_format.specs.Lines.{all_lines, as_line, ended_lines, has_line_feed, line_feed, unended_line}
use Rattle.def_format.proofs.LineFacts.{no_ended_lines, or_false, unended-no_feed}
use Rattle.judge_infer.specs.Inferred.{Fault, Stage, after_line, after_lines}

or_true : (b : Bool) → (b || true) ≡ true
or_true true = refl
or_true false = refl

has_feed : (part rest : List ℕ) → has_line_feed (part ++ 10 ∷ rest) ≡ true
has_feed [] rest = refl
has_feed (x ∷ part) rest = rw (has_feed part rest) (or_true (x == line_feed))

ended : (part rest : List ℕ) → has_line_feed part ≡ false → ended_lines (part ++ 10 ∷ rest) ≡ part ∷ ended_lines rest
ended [] rest none = refl
ended (x ∷ part) rest none =
    let both = or_false (x == line_feed) (has_line_feed part) none in rw (both.0, ended part rest both.1) refl

unended : (part rest : List ℕ) → unended_line (part ++ 10 ∷ rest) ≡ unended_line rest
unended [] rest = refl
unended (x ∷ part) rest = rw (has_feed (x ∷ part) rest) (unended part rest)

-- a part that an LF ends is the first line
pub first_line : (bytes part rest : List ℕ) → bytes ≡ part ++ 10 ∷ rest → has_line_feed part ≡ false
    → all_lines bytes ≡ part ∷ all_lines rest
first_line bytes part rest e none = rw (e, ended part rest none, unended part rest) refl

-- bytes without LF are one line, if there are any
pub one_line : (bytes : List ℕ) → has_line_feed bytes ≡ false → all_lines bytes ≡ as_line bytes
one_line bytes none = rw (no_ended_lines bytes none, unended-no_feed bytes none) refl

pub shorter : (bytes part rest : List ℕ) → bytes ≡ part ++ 10 ∷ rest → length rest < length bytes
shorter bytes part rest e = rw e (omega (arith, length-append part (10 ∷ rest)))

-- ---- what a line says after others

pub goes_on : (s t : Stage) (n : ℕ) (line : List ℕ) (others lines : List (List ℕ)) → lines ≡ line ∷ others
    → after_line s n line ≡ Ok t → after_lines s n lines ≡ after_lines t (n + 1) others
goes_on s t n line others lines e due = rw (e, due, add-one n) refl

pub stops : (s : Stage) (f : Fault) (n : ℕ) (line : List ℕ) (others lines : List (List ℕ)) → lines ≡ line ∷ others
    → after_line s n line ≡ Err f → after_lines s n lines ≡ Err f
stops s f n line others lines e due = rw (e, due) refl

-- the last line, which no LF ends
pub last_goes_on : (s t : Stage) (n : ℕ) (rest : List ℕ) → 0 < length rest → all_lines rest ≡ as_line rest
    → after_line s n rest ≡ Ok t → after_lines s n (all_lines rest) ≡ Ok t
last_goes_on s t n [] some e due = absurd (omega arith)
last_goes_on s t n (x ∷ rest) some e due = rw (e, due) refl

pub last_stops : (s : Stage) (f : Fault) (n : ℕ) (rest : List ℕ) → 0 < length rest → all_lines rest ≡ as_line rest
    → after_line s n rest ≡ Err f → after_lines s n (all_lines rest) ≡ Err f
last_stops s f n [] some e due = absurd (omega arith)
last_stops s f n (x ∷ rest) some e due = rw (e, due) refl

-- no line is left
pub none_left : (s : Stage) (n : ℕ) (rest : List ℕ) → length rest ≡ 0 → after_lines s n (all_lines rest) ≡ Ok s
none_left s n [] none = refl
none_left s n (x ∷ rest) none = absurd (omega arith)

pub ruleset line_steps = (goes_on, stops, last_goes_on, last_stops, none_left)
