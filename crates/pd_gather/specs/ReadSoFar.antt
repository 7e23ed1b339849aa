-- What a source has given its stream so far.
use Rattle.std.specs.Prelude.{◌≡◌, ℕ, ◌≤◌, ◌==◌, if◌then◌else◌, List, length, take, Result, Ok, Err}
use Rattle.std.specs.Io.KnownBytes.{Consumes}
use Rattle.def_format.specs.Names.{ProcessNames}
use Rattle.def_format.specs.Readings.{Open}
use Rattle.def_judgement.specs.Judgements.{RawStream}
use Rattle.def_format.specs.Sessions.{Input, Piece, AtEnd, Broken}
use Rattle.pd_events.specs.Reads.{ReaderState, Reads}
use Rattle.pd_gather.specs.ReadStreams.{IsOwnEnd, StopsWhenClosed}
use Rattle.pd_gather.specs.Rows.{GoesOnTo, row_of_reading}
use Rattle.def_judgement.specs.Writes.{IsGivenBy, Source}

-- what a read into these bytes gives
abbrev pub input_of_read : {E : Type 0} → Result ℕ E → List ℕ → Input
input_of_read (Ok count) piece = if count == 0 then AtEnd else Piece (take count piece)
input_of_read (Err error) piece = Broken

-- The stream stands for the reading of what this many reads gave of this source, with this left of it: bytes, at least
-- one a read, after which more may come, or all that the source gives.
pub data HasRead (names : List ProcessNames) (input left : Source) (reads : ℕ) (state : ReaderState) : Type 0 where
  so_far : (bytes : List ℕ) → reads ≤ length bytes → Consumes input.bytes left.bytes bytes
      → left.fails ≡ input.fails → StopsWhenClosed names bytes → Reads state names Open bytes
      → HasRead names input left reads state
  to_the_end : (stream : RawStream) → IsGivenBy input.bytes stream → Consumes input.bytes left.bytes stream.bytes
      → StopsWhenClosed names stream.bytes → IsOwnEnd names input stream
      → Reads state names stream.ending stream.bytes → HasRead names input left reads state

-- the same after one read more, by which the stream's row goes on
pub record ReadsOn (names : List ProcessNames) (input left : Source) (reads : ℕ) (before after : ReaderState) : Type 0
  where
    pub has_read : HasRead names input left reads after
    pub row : GoesOnTo (row_of_reading before.reading) (row_of_reading after.reading)
