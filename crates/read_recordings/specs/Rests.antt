-- What is left of a stream from the beginning of a line on.
use Rattle.std.specs.Prelude.{◌≡◌, ℕ, ◌+◌, ◌<◌, ◌≤◌, List, [], ◌∷◌, ◌++◌, length, Option, Some, None}
use Rattle.def_format.specs.Lines.{FrameFault, Line, all_lines, line_count, numbered_from}
use Rattle.def_format.specs.Lines as lines
use Rattle.def_format.specs.Readings.{Fault, LineTooLong, Stop, StreamTooLong, Unended}
use Rattle.def_recordings.specs.Recordings.{lines_before_long, long_line}

-- the lines of these bytes up to the first that is too long, of which the first has this number
abbrev pub lines_from : ℕ → List ℕ → List Line
lines_from number rest = numbered_from number (lines_before_long (all_lines rest))

abbrev pub stop_after : ℕ → List ℕ → Option FrameFault → Stop
stop_after number rest (Some (lines.LineTooLong line)) = Fault line LineTooLong
stop_after number rest (Some (lines.StreamTooLong line)) = Fault line StreamTooLong
stop_after number rest None = Fault (line_count rest + number) Unended

-- how the stream ends after them
abbrev pub stop_from : ℕ → List ℕ → Stop
stop_from number rest = stop_after number rest (long_line number (all_lines rest))

-- these lines come next, the blank ones left out, and then the line of this number and the bytes from it on
pub record GoesOnTo (number : ℕ) (rest : List ℕ) (lines : List Line) (next : ℕ) (following : List ℕ) : Type 0 where
  pub same_lines : lines_from number rest ≡ lines ++ lines_from next following
  pub same_stop : stop_from number rest ≡ stop_from next following
  pub few : next + length following ≤ number + length rest

-- this line comes next
pub record IsNextLine (number : ℕ) (rest line following : List ℕ) : Type 0 where
  pub goes_on : GoesOnTo number rest (numbered_from number (line ∷ [])) (number + 1) following
  pub shorter : length following < length rest

-- no line comes any more, and the stream ends so
pub record EndsBy (number : ℕ) (rest : List ℕ) (stop : Stop) : Type 0 where
  pub no_line : lines_from number rest ≡ []
  pub same_stop : stop_from number rest ≡ stop
