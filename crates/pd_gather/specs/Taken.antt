-- What the readers of all streams stand for.
use Rattle.std.specs.Prelude.{◌≡◌, ℕ, ◌<◌, suc, zero, List, [], ◌∷◌, ◌++◌, Some, slice_get}
use Rattle.def_format.specs.Names.{ProcessNames}
use Rattle.def_format.specs.Readings.{IsClosed, Open}
use Rattle.def_format.specs.Sessions.{Input, Interleaving, StreamResult, bytes_of, ending_of, ending_of_inputs, joined_pieces}
use Rattle.def_judgement.specs.Judgements.{RawStream, AreResultsOf}
use Rattle.pd_events.specs.Reads.{ReaderState, Reads}

-- each stream's reader stands for the reading of what the steps gave of that stream
pub record HasTaken (core : List ReaderState) (names : List ProcessNames) (steps : Interleaving) : Type 0 where
  pub each : (i : ℕ) (reader : ReaderState) → slice_get core i ≡ Some reader
      → Reads reader names (ending_of i steps) (bytes_of i steps)

-- what an input makes of a reader: of an open stream it is the next one, and a closed reader stays
pub record Takes (old new : ReaderState) (input : Input) : Type 0 where
  pub next : (names : List ProcessNames) (bytes : List ℕ) → Reads old names Open bytes
      → Reads new names (ending_of_inputs (input ∷ [])) (bytes ++ joined_pieces (input ∷ []))
  pub stays : IsClosed old.reading.stop → new ≡ old

abbrev pub HasClosed : ReaderState → Type 0
HasClosed reader = IsClosed reader.reading.stop

abbrev pub raw_stream_of : Interleaving → ℕ → RawStream
raw_stream_of steps stream = record { ending = ending_of stream steps; bytes = bytes_of stream steps }

-- what this many streams gave, from this one on
abbrev pub raw_streams_from : Interleaving → ℕ → ℕ → List RawStream
raw_streams_from steps stream zero = []
raw_streams_from steps stream (suc count) = raw_stream_of steps stream ∷ raw_streams_from steps (suc stream) count

-- what the first streams gave, this many of them
abbrev pub raw_streams : ℕ → Interleaving → List RawStream
raw_streams count steps = raw_streams_from steps 0 count

-- What the streams come to doesn't depend on the order in which their inputs come: if each stream has the same bytes
-- and the same ending, the results are the same.
abbrev pub OrderDoesntMatter : Type 0
OrderDoesntMatter = (names : List ProcessNames) (count : ℕ) (steps others : Interleaving)
    → ((i : ℕ) → i < count → bytes_of i steps ≡ bytes_of i others)
    → ((i : ℕ) → i < count → ending_of i steps ≡ ending_of i others)
    → (results other_results : List StreamResult)
    → AreResultsOf names (raw_streams count steps) results
    → AreResultsOf names (raw_streams count others) other_results
    → results ≡ other_results
