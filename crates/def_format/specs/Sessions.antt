-- The bytes of each stream of an interleaving, and the session that the streams' readings make.
use Rattle.std.specs.Prelude.{ℕ, suc, Bool, true, false, nat_lt, ◌==◌, if◌then◌else◌, List, [], ◌∷◌, ◌++◌, length, Option, Some, None, Result, Ok, Err}
use Rattle.def_format.specs.Names.{ProcessNames}
use Rattle.def_format.specs.Readings.{Ending, Open, Ended, Failed, Reading, reading, Trace, StreamFault}
use Rattle.def_format.specs.Limits.{stream_count_limit}

-- ---- interleavings

-- a piece of a stream's bytes, its end, or a read that failed
pub data Input : Type 0 where
  Piece : List ℕ → Input
  AtEnd : Input
  Broken : Input

-- inputs of streams, each with the stream's number, from 0
abbrev pub Interleaving : Type 0
Interleaving = List (ℕ × Input)

-- one stream's inputs
abbrev pub inputs_of : ℕ → Interleaving → List Input
inputs_of stream [] = []
inputs_of stream ((other, input) ∷ later) = if other == stream then input ∷ inputs_of stream later else
    inputs_of stream later

-- the pieces before the first end or failure, joined
abbrev pub joined_pieces : List Input → List ℕ
joined_pieces [] = []
joined_pieces (Piece bytes ∷ later) = bytes ++ joined_pieces later
joined_pieces (AtEnd ∷ later) = []
joined_pieces (Broken ∷ later) = []

-- that end or failure
abbrev pub ending_of_inputs : List Input → Ending
ending_of_inputs [] = Open
ending_of_inputs (Piece bytes ∷ later) = ending_of_inputs later
ending_of_inputs (AtEnd ∷ later) = Ended
ending_of_inputs (Broken ∷ later) = Failed

abbrev pub bytes_of : ℕ → Interleaving → List ℕ
bytes_of stream steps = joined_pieces (inputs_of stream steps)

abbrev pub ending_of : ℕ → Interleaving → Ending
ending_of stream steps = ending_of_inputs (inputs_of stream steps)

abbrev pub stream_reading : List ProcessNames → Interleaving → ℕ → Reading
stream_reading names steps stream = reading names (ending_of stream steps) (bytes_of stream steps)

-- ---- sessions

pub data SessionFault : Type 0 where
  TooManyStreams : SessionFault
  Stream : ℕ → StreamFault → SessionFault
  Taken : ℕ → ℕ → SessionFault
  Absent : ℕ → SessionFault

abbrev pub StreamResult : Type 0
StreamResult = Result Trace StreamFault

-- one of the outcomes is a trace of this process
abbrev pub has_joined : ℕ → List StreamResult → Bool
has_joined process [] = false
has_joined process (Ok trace ∷ others) = if trace.process == process then true else has_joined process others
has_joined process (Err fault ∷ others) = has_joined process others

-- the fault of a stream after these: its own, or that an earlier stream joined its process
abbrev pub stream_fault : List StreamResult → StreamResult → Option SessionFault
stream_fault before (Err fault) = Some (Stream (length before) fault)
stream_fault before (Ok trace) = if has_joined trace.process before then Some (Taken (length before) trace.join_line)
    else None

abbrev pub fault_or : Option SessionFault → Option SessionFault → Option SessionFault
fault_or None later = later
fault_or (Some fault) later = Some fault

-- the fault of the first stream that has one, of streams after others
abbrev pub first_stream_fault : List StreamResult → List StreamResult → Option SessionFault
first_stream_fault before [] = None
first_stream_fault before (first ∷ later) =
    fault_or (stream_fault before first) (first_stream_fault (before ++ first ∷ []) later)

-- the trace of this process
abbrev pub trace_of : ℕ → List StreamResult → Option Trace
trace_of process [] = None
trace_of process (Ok trace ∷ others) = if trace.process == process then Some trace else trace_of process others
trace_of process (Err fault ∷ others) = trace_of process others

-- the traces of the processes from this one on, in their order, or the first that is absent
abbrev pub traces_from : ℕ → List ProcessNames → List StreamResult → Result (List Trace) SessionFault
traces_from process [] outcomes = Ok []
traces_from process (names ∷ others) outcomes =
    join (trace_of process outcomes) (traces_from (suc process) others outcomes)
  where
    join : Option Trace → Result (List Trace) SessionFault → Result (List Trace) SessionFault
    join None later = Err (Absent process)
    join (Some trace) (Ok later) = Ok (trace ∷ later)
    join (Some trace) (Err fault) = Err fault

abbrev pub or_traces : Option SessionFault → Result (List Trace) SessionFault → Result (List Trace) SessionFault
or_traces (Some fault) traces = Err fault
or_traces None traces = traces

-- the session of this many streams with these outcomes, if there may be so many of them as the limit says
abbrev pub session_within : ℕ → List ProcessNames → ℕ → List StreamResult → Result (List Trace) SessionFault
session_within limit names streams outcomes =
    if nat_lt limit streams then Err TooManyStreams
    else or_traces (first_stream_fault [] outcomes) (traces_from 0 names outcomes)

-- the session of this many streams with these outcomes
abbrev pub session : List ProcessNames → ℕ → List StreamResult → Result (List Trace) SessionFault
session = session_within stream_count_limit
