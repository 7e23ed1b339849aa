-- What one read does to the bytes that are held, and what is taken of them.
use Rattle.std.specs.Prelude.{◌≡◌, ◌≢◌, ◌<◌, ◌≤◌, ℕ, Bool, true, false, List, [], ◌∷◌, ◌++◌, Some, length}
use Rattle.std.specs.Io.KnownBytes.{Consumes, IsAtEnd}
use Rattle.def_format.specs.Lines.{has_line_feed}
use Rattle.def_judgement.specs.Writes.{Source}
use Rattle.read_lines.specs.GivenLines.{HasPart, session_line_limit}

-- the bytes that are kept of a line: all, or more than one that is given whole may have
pub record IsKept (kept part : List ℕ) : Type 0 where
  pub same : length kept ≤ session_line_limit → kept ≡ part
  pub long : session_line_limit < length kept → session_line_limit < length part

-- the bytes that a read took off a source with this left: some, or none at its end
pub record Fills (more : Bool) (before after : Source) (held : List ℕ) : Type 0 where
  pub consumed : Consumes before.bytes after.bytes held
  pub same_fate : more ≡ true → after.fails ≡ before.fails
  pub none : more ≡ false → held ≡ []
  pub at_end : more ≡ false → IsAtEnd after.bytes
  pub no_failure : more ≡ false → before.fails ≢ Some true

-- these bytes, which go on after an LF with those, or which are all
abbrev pub IsCutAt : (found : Bool) → (held part rest : List ℕ) → Type 0
IsCutAt true held part rest = held ≡ part ++ 10 ∷ rest
IsCutAt false held part rest = (held ≡ part) × (rest ≡ [])

-- the bytes before the first LF were taken, or all if there is none, and were kept of a line
pub record TakesPart (found : Bool) (old new kept_old kept_new : List ℕ) : Type 0 where
  pub part : List ℕ
  pub is_cut : IsCutAt found old part new
  pub no_feed : has_line_feed part ≡ false
  pub keeps : (before : List ℕ) → IsKept kept_old before → IsKept kept_new (before ++ part)

-- The lines that a source gave so far, and then a line of which these bytes are kept so far.
pub record IsInLine (input : Source) (lines : List (List ℕ)) (kept : List ℕ) (left : Source) (held : List ℕ) : Type 0
  where
    pub part : List ℕ
    pub is_kept : IsKept kept part
    pub has_part : HasPart input lines part left held
