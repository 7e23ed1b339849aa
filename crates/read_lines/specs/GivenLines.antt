-- The lines of a source, given one after another.
use Rattle.std.specs.Prelude.{◌≡◌, ◌<◌, ◌≤◌, ℕ, Bool, true, false, List, [], ◌∷◌, ◌++◌, length, Option, Some, None}
use Rattle.std.specs.Io.KnownBytes.{Consumes}
use Rattle.def_format.specs.Lines.{all_lines, ended_lines, has_line_feed, unended_line}
use Rattle.def_judgement.specs.Writes.{FailsAfter, IsWholeInput, Source}
use Rattle.read_lines.specs.declared.line.Line.{Line}
use Rattle.read_lines.specs.declared.line.Line.TheVariants.{Long, Whole}

-- bytes of a line that is given whole, its LF aside
abbrev pub session_line_limit : ℕ
session_line_limit = 134217728

-- What is left of the lines of a source: what is known of what its reader has left, the bytes that it gave before and
-- that are in no line yet, and whether it gave its end.
pub record State : Type 0 where
  pub left : Source
  pub held : List ℕ
  pub ended : Bool

-- the line with these bytes: they are given, or they are too many
abbrev pub IsLine : Line → List ℕ → Type 0
IsLine (Whole bytes) line = (bytes.items ≡ line) × (length line ≤ session_line_limit)
IsLine Long line = session_line_limit < length line

-- these are the lines of all bytes that a source gave to its end
pub record AreLines (input : Source) (lines : List (List ℕ)) : Type 0 where
  pub bytes : List ℕ
  pub is_given : IsWholeInput input bytes
  pub are_lines : all_lines bytes ≡ lines

-- A source gave these lines, each with its LF, then these bytes without one, and then its end.
pub record EndsIn (input : Source) (lines : List (List ℕ)) (rest : List ℕ) : Type 0 where
  pub bytes : List ℕ
  pub is_given : IsWholeInput input bytes
  pub are_ended : ended_lines bytes ≡ lines
  pub is_rest : unended_line bytes ≡ rest

-- A source that isn't at its end gave these lines, each with its LF, and then the bytes of a line that goes on. Whether
-- a read of it fails is known as before.
pub record HasPart (input : Source) (lines : List (List ℕ)) (part : List ℕ) (left : Source) (held : List ℕ) : Type 0
  where
    pub taken : List ℕ
    pub consumed : Consumes input.bytes left.bytes (taken ++ part ++ held)
    pub same_fate : left.fails ≡ input.fails
    pub are_lines : ended_lines taken ≡ lines
    pub are_ended : unended_line taken ≡ []
    pub goes_on : has_line_feed part ≡ false

-- The lines that a source gave so far. At its end they are all lines.
abbrev pub HasLinesBy : Bool → (input : Source) → List (List ℕ) → (left : Source) (held : List ℕ) → Type 0
HasLinesBy false input lines left held = HasPart input lines [] left held
HasLinesBy true input lines left held = AreLines input lines

abbrev pub HasLines : (input : Source) → List (List ℕ) → State → Type 0
HasLines input lines state = HasLinesBy state.ended input lines state.left state.held

-- the lines that a source gave so far, and then this one, which has no LF if it comes with the end
pub record HasNext (input : Source) (lines : List (List ℕ)) (line : Line) (state : State) : Type 0 where
  pub bytes : List ℕ
  pub is_line : IsLine line bytes
  pub has_lines : HasLines input (lines ++ bytes ∷ []) state
  pub unended : state.ended ≡ true → EndsIn input lines bytes

-- From any lines that a source may have given so far, it gives the next one; or they were all, and it is at its end. If
-- it wasn't there before, each has its LF.
abbrev pub Gives : Option Line → (old new : State) → Type 0
Gives (Some line) old new =
    (input : Source) (lines : List (List ℕ)) → HasLines input lines old → HasNext input lines line new
Gives None old new =
    (new.ended ≡ true) × ((input : Source) (lines : List (List ℕ)) → HasLines input lines old → AreLines input lines)
    × (old.ended ≡ false → (input : Source) (lines : List (List ℕ)) → HasLines input lines old → EndsIn input lines [])

-- A read failed of a source that gave these lines. If one is known to fail, they are all that have an LF.
abbrev pub BreaksOff : (input : Source) → List (List ℕ) → Type 0
BreaksOff input lines = FailsAfter input (λ bytes. ended_lines bytes ≡ lines)
