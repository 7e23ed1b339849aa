-- A tool of proofs: nothing that a reader has to believe. A walk over tokens that finds whether they begin a
-- predicate's: in a mode, and inside this many parentheses.
use Rattle.std.specs.Prelude.{ℕ, suc, zero, Bool, if◌then◌else◌, List, [], ◌∷◌, Option, Some, None, is_some, option_and_then, codes}
use Rattle.std.specs.Str.{bytes_eq}
use Rattle.def_model.specs.Predicates.{Minus}
use Rattle.def_format.specs.Tokens.{Token, Word, Digits, OpenParen, CloseParen, Relates, Signs, Star, Dot, End}

-- ---- words

-- what a word can be: `not`, `and` or `or`, `true` or `false`, or a name
pub data WordKind : Type 0 where
  ANot : WordKind
  AJoin : WordKind
  ATruth : WordKind
  AName : WordKind

abbrev pub word_kind : List ℕ → WordKind
word_kind w =
    if bytes_eq w (codes "and") then AJoin else
    (if bytes_eq w (codes "or") then AJoin else (if bytes_eq w (codes "not") then ANot
    else (if bytes_eq w (codes "true") then ATruth else (if bytes_eq w (codes "false") then ATruth else AName))))

-- ---- the walk

-- the side of a comparison
pub data Side : Type 0 where
  OnLeft : Side
  OnRight : Side

-- what may come next
pub data Mode : Type 0 where
  AtOperand : Mode
  AtSum : Mode
  AtTerm : Side → Mode
  AfterNumber : Side → Mode
  AfterStar : Side → Mode
  AfterName : Side → Mode
  AfterDot : Side → Mode
  AfterTerm : Side → Mode
  AfterOperand : Mode

-- a mode inside this many parentheses, or the end
pub data State : Type 0 where
  Inside : Mode → ℕ → State
  AtEnd : State

abbrev pub goes : Mode → ℕ → Option State
goes mode d = Some (Inside mode d)

-- a name, and no other word
abbrev pub if_name : Mode → ℕ → WordKind → Option State
if_name mode d AName = goes mode d
if_name mode d ANot = None
if_name mode d AJoin = None
if_name mode d ATruth = None

abbrev pub operand_word : ℕ → WordKind → Option State
operand_word d ANot = goes AtOperand d
operand_word d ATruth = goes AfterOperand d
operand_word d AName = goes (AfterName OnLeft) d
operand_word d AJoin = None

abbrev pub operand_next : ℕ → Token → Option State
operand_next d (Word w) = operand_word d (word_kind w)
operand_next d (Digits n) = goes (AfterNumber OnLeft) d
operand_next d OpenParen = goes AtOperand (suc d)
operand_next d (Signs Minus) = goes (AtTerm OnLeft) d
operand_next d _ = None

abbrev pub sum_next : ℕ → Token → Option State
sum_next d (Word w) = if_name (AfterName OnRight) d (word_kind w)
sum_next d (Digits n) = goes (AfterNumber OnRight) d
sum_next d (Signs Minus) = goes (AtTerm OnRight) d
sum_next d _ = None

abbrev pub term_next : Side → ℕ → Token → Option State
term_next side d (Word w) = if_name (AfterName side) d (word_kind w)
term_next side d (Digits n) = goes (AfterNumber side) d
term_next side d _ = None

abbrev pub if_join : ℕ → WordKind → Option State
if_join d AJoin = goes AtOperand d
if_join d ANot = None
if_join d ATruth = None
if_join d AName = None

abbrev pub after_operand_next : ℕ → Token → Option State
after_operand_next d (Word w) = if_join d (word_kind w)
after_operand_next (suc d) CloseParen = goes AfterOperand d
after_operand_next zero End = Some AtEnd
after_operand_next d _ = None

abbrev pub after_term_next : Side → ℕ → Token → Option State
after_term_next side d (Signs sign) = goes (AtTerm side) d
after_term_next OnLeft d (Relates comparison) = goes AtSum d
after_term_next OnLeft d _ = None
after_term_next OnRight d (Word w) = after_operand_next d (Word w)
after_term_next OnRight d (Digits n) = None
after_term_next OnRight d OpenParen = None
after_term_next OnRight d CloseParen = after_operand_next d CloseParen
after_term_next OnRight d (Relates comparison) = None
after_term_next OnRight d Star = None
after_term_next OnRight d Dot = None
after_term_next OnRight d End = after_operand_next d End

abbrev pub after_number_next : Side → ℕ → Token → Option State
after_number_next side d Star = goes (AfterStar side) d
after_number_next side d (Word w) = after_term_next side d (Word w)
after_number_next side d (Digits n) = after_term_next side d (Digits n)
after_number_next side d OpenParen = after_term_next side d OpenParen
after_number_next side d CloseParen = after_term_next side d CloseParen
after_number_next side d (Relates comparison) = after_term_next side d (Relates comparison)
after_number_next side d (Signs sign) = after_term_next side d (Signs sign)
after_number_next side d Dot = after_term_next side d Dot
after_number_next side d End = after_term_next side d End

abbrev pub name_next : Mode → ℕ → Token → Option State
name_next mode d (Word w) = if_name mode d (word_kind w)
name_next mode d _ = None

abbrev pub dot_next : Side → ℕ → Token → Option State
dot_next side d Dot = goes (AfterDot side) d
dot_next side d _ = None

abbrev pub next : Mode → ℕ → Token → Option State
next AtOperand d t = operand_next d t
next AtSum d t = sum_next d t
next (AtTerm side) d t = term_next side d t
next (AfterNumber side) d t = after_number_next side d t
next (AfterStar side) d t = name_next (AfterName side) d t
next (AfterName side) d t = dot_next side d t
next (AfterDot side) d t = name_next (AfterTerm side) d t
next (AfterTerm side) d t = after_term_next side d t
next AfterOperand d t = after_operand_next d t

abbrev pub step : State → Token → Option State
step (Inside mode d) t = next mode d t
step AtEnd t = None

abbrev pub walk : State → List Token → Option State
walk s [] = Some s
walk s (t ∷ ts) = option_and_then (λ later. walk later ts) (step s t)

abbrev pub start : State
start = Inside AtOperand 0

abbrev pub begins : List Token → Bool
begins ts = is_some (walk start ts)
