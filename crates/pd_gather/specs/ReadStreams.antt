-- What is read of sources.
use Rattle.std.specs.Prelude.{◌≡◌, ◌≢◌, ℕ, ◌≤◌, ◌⊎◌, true, List, ◌++◌, length, map, Some}
use Rattle.std.specs.List.{AllZip}
use Rattle.std.specs.Io.KnownBytes.{Consumes}
use Rattle.def_format.specs.Histories.{Row, fresh_row}
use Rattle.def_format.specs.Names.{ProcessNames}
use Rattle.def_format.specs.Readings.{Ended, Failed, Open, NothingMore, IsClosed, reading}
use Rattle.def_format.specs.Sessions.{StreamResult, session}
use Rattle.def_judgement.specs.Judgements.{RawStream, IsResultOf, AreResultsOf}
use Rattle.def_judgement.specs.Writes.{FailsAfter, IsGivenBy, Source}
use Rattle.pd_gather.specs.Rows.{HasPosted, row_of_reading}

-- the most bytes that one read asks for
abbrev pub read_byte_limit : ℕ
read_byte_limit = 65536

-- The bytes are those of a stream that was open before the last read, and of that read, if it gave any. So nothing more
-- is read once the stream is closed.
pub record StopsWhenClosed (names : List ProcessNames) (bytes : List ℕ) : Type 0 where
  pub before : List ℕ
  pub last : List ℕ
  pub parts : bytes ≡ before ++ last
  pub one_read : length last ≤ read_byte_limit
  pub still_open : (reading names Open before).stop ≡ NothingMore

-- the row of a stream of which this was reported
abbrev pub row_of_stream : List ProcessNames → RawStream → Row
row_of_stream names stream = row_of_reading (reading names stream.ending stream.bytes)

-- The stream of this source ended as the source may: with its end, unless it is known that a read fails; with a failed
-- read, unless it is known that none fails, and after all its bytes if it is known that one does. Or it was closed by
-- its bytes, and not read on.
pub record IsOwnEnd (names : List ProcessNames) (source : Source) (stream : RawStream) : Type 0 where
  pub ends : stream.ending ≡ Ended → source.fails ≢ Some true
  pub fails : stream.ending ≡ Failed
      → IsClosed (reading names Open stream.bytes).stop ⊎ FailsAfter source (λ bytes. stream.bytes ≡ bytes)

-- A source with this left, and this afterwards, gave a stream whose result this is, and whose row in a register this
-- is. What was consumed of the source are the stream's bytes.
pub record IsReadFrom (names : List ProcessNames) (input left : Source) (result : StreamResult) (row : Row) : Type 0
  where
    pub stream : RawStream
    pub is_given : IsGivenBy input.bytes stream
    pub is_result : IsResultOf names stream result
    pub is_row : row ≡ row_of_stream names stream
    pub consumed : Consumes input.bytes left.bytes stream.bytes
    pub stops : StopsWhenClosed names stream.bytes
    pub own_end : IsOwnEnd names input stream

-- the same of a source that isn't seen again
abbrev pub IsReadOf : List ProcessNames → Source → StreamResult → Row → Type 0
IsReadOf names input result row = (left : Source) × IsReadFrom names input left result row

-- A source with this left was read in part, with this left afterwards, when memory ran out, and this is the row in a
-- register. What was consumed of the source are a stream's bytes, after which more may come if its ending is open, and
-- the row is one that posts lead through on the way to the stream's.
pub record IsReadInPart (names : List ProcessNames) (input left : Source) (row : Row) : Type 0 where
  pub stream : RawStream
  pub is_given : stream.ending ≢ Open → IsGivenBy input.bytes stream
  pub posted : HasPosted fresh_row (row_of_stream names stream) row
  pub consumed : Consumes input.bytes left.bytes stream.bytes
  pub stops : StopsWhenClosed names stream.bytes
  pub own_end : IsOwnEnd names input stream

-- a source with this left was read, or was read in part when memory ran out, and left this row in a register
abbrev pub LeavesRow : List ProcessNames → Source → Row → Type 0
LeavesRow names input row =
    ((result : StreamResult) × IsReadOf names input result row)
    ⊎ ((left : Source) × IsReadInPart names input left row)

-- the results and the rows are those of what the sources gave
pub record AreReadOf (names : List ProcessNames) (inputs : List Source) (results : List StreamResult)
    (rows : List Row) : Type 0 where
  pub streams : List RawStream
  pub are_given : AllZip (λ source. IsGivenBy source.bytes) inputs streams
  pub are_results : AreResultsOf names streams results
  pub are_rows : rows ≡ map (row_of_stream names) streams
  pub own_ends : AllZip (IsOwnEnd names) inputs streams

-- This many streams with these results make the session that these streams make. If they are too many, no result
-- counts.
pub record ComesTo (names : List ProcessNames) (streams : List RawStream) (count : ℕ) (results : List StreamResult) :
    Type 0 where
  pub given_results : List StreamResult
  pub are_results : AreResultsOf names streams given_results
  pub same_session : session names count results ≡ session names (length streams) given_results
