-- A tool of proofs: nothing that a reader has to believe. How a reading goes on by more lines, and how it ends. Each
-- law is proved at a function of the crate.
use Rattle.std.specs.Prelude.{◌≡◌, ℕ, ◌+◌, ◌≤◌, ◌<◌, nat_lt, if◌then◌else◌, List, [], ◌∷◌, ◌++◌, length, All, Option, Some, None, option_map, ℤ, Result, Ok, Err}
use Rattle.def_model.specs.Events.{Event, SetsAscend}
use Rattle.def_format.specs.Lines.{Line, FrameFault, frame_fault, open_lines, finished_lines, line_count, line_number, IsBatch}
use Rattle.def_format.specs.Names.{ProcessNames, vars_of}
use Rattle.def_format.specs.Records.{RecordFault, Join, LineRecord, Joins, Happens, Ends, record_of}
use Rattle.def_format.specs.Readings.{Ending, Open, Ended, Failed, Stop, NothingMore, EndLine, Fault, InRecord, TooManyEvents, Unended, ReadFailed, Reading, not_joined, reading_of_lines, stop_at_end, with_end, reading, result_of, Trace}
use Rattle.def_format.specs.Limits.{event_limit}

abbrev pub stopped_by : Reading → Stop → Reading
stopped_by r stop = record { joined = r.joined; events = r.events; stop = stop }

-- A reading after one record more, before the join or after it, of a process that may have as many events as the limit
-- says.
abbrev pub after_record : (limit : ℕ) → Option (ℕ × ℕ) → Reading → ℕ → Result LineRecord RecordFault → Reading
after_record limit None r number (Ok (Joins process)) = record {
  joined = Some (process, number);
  events = r.events;
  stop =
      NothingMore;
}
after_record limit None r number (Ok (Happens event)) = stopped_by r (Fault number (InRecord Join))
after_record limit None r number (Ok Ends) = stopped_by r (Fault number (InRecord Join))
after_record limit None r number (Err fault) = stopped_by r (Fault number (InRecord fault))
after_record limit (Some joined) r number (Ok (Joins process)) = stopped_by r (Fault number (InRecord Join))
after_record limit (Some joined) r number (Ok (Happens event)) =
    if nat_lt (length r.events) limit then record {
      joined = r.joined;
      events = r.events ++ event ∷ [];
      stop =
          NothingMore;
    }
    else stopped_by r (Fault number TooManyEvents)
after_record limit (Some joined) r number (Ok Ends) = stopped_by r EndLine
after_record limit (Some joined) r number (Err fault) = stopped_by r (Fault number (InRecord fault))

abbrev pub process_of : Option (ℕ × ℕ) → Option ℕ
process_of joined = option_map (λ (j : ℕ × ℕ). j.0) joined

-- after one line more
abbrev pub read_line : (limit : ℕ) → List ProcessNames → Reading → Line → Reading
read_line limit names r line =
    after_record limit r.joined r line.number (record_of names (process_of r.joined) line.bytes)

-- what has stopped stays as it is
abbrev pub unless_stopped : Stop → Reading → Reading → Reading
unless_stopped NothingMore r next = next
unless_stopped EndLine r next = r
unless_stopped (Fault number kind) r next = r

abbrev pub read_on : (limit : ℕ) → List ProcessNames → Reading → List Line → Reading
read_on limit names r [] = r
read_on limit names r (line ∷ later) =
    read_on limit names (unless_stopped r.stop r (read_line limit names r line)) later

-- if a batch comes after bytes whose reading is open
abbrev pub ReadingGoesOn : Type 0
ReadingGoesOn = (names : List ProcessNames) (bytes piece : List ℕ) (lines : List Line) (fault : Option FrameFault)
    → (reading names Open bytes).stop ≡ NothingMore → IsBatch bytes piece lines fault
    → reading names Open (bytes ++ piece)
    ≡ with_end (stop_at_end Open (bytes ++ piece) fault) (read_on event_limit names (reading names Open bytes) lines)

-- if the input ends after them
abbrev pub ReadingEnds : Type 0
ReadingEnds = (names : List ProcessNames) (bytes : List ℕ) (lines : List Line) → (reading names Open bytes).stop
    ≡ NothingMore → finished_lines bytes ≡ open_lines bytes ++ lines
    → reading names Ended bytes ≡ with_end (Fault (line_count bytes + 1) Unended)
    (read_on event_limit names (reading names Open bytes) lines)

-- if a read of it fails
abbrev pub ReadingFails : Type 0
ReadingFails = (names : List ProcessNames) (bytes : List ℕ) → (reading names Open bytes).stop ≡ NothingMore
    → reading names Failed bytes ≡ stopped_by (reading names Open bytes) (Fault (line_number bytes) ReadFailed)

-- bytes whose reading is open have no fault
abbrev pub OpenIsSound : Type 0
OpenIsSound = (names : List ProcessNames) (bytes : List ℕ) → (reading names Open bytes).stop ≡ NothingMore
    → frame_fault bytes ≡ None

-- ---- traces

-- the variables set ascend, and are of the process
pub record FitsProcess (names : List ProcessNames) (process : ℕ) (event : Event) : Type 0 where
  pub ascend : SetsAscend event
  pub known : All (λ (set : ℕ × ℤ). set.0 < length (vars_of names process)) event.sets

-- the trace is of one of these processes, and has at most as many events as the limit says
pub record FitsWithin (limit : ℕ) (names : List ProcessNames) (trace : Trace) : Type 0 where
  pub process_known : trace.process < length names
  pub few_events : length trace.events ≤ limit
  pub events_fit : All (FitsProcess names trace.process) trace.events

abbrev pub FitsSession : List ProcessNames → Trace → Type 0
FitsSession names trace = FitsWithin event_limit names trace

abbrev pub TracesFit : Type 0
TracesFit = (names : List ProcessNames) (ending : Ending) (bytes : List ℕ) (trace : Trace)
    → result_of (reading names ending bytes) ≡ Some (Ok trace) → FitsSession names trace

-- lines are read one after another, and some after others
pub record LinesAreRead : Type 0 where
  pub first : (limit : ℕ) (names : List ProcessNames) (lines : List Line)
      → reading_of_lines limit names lines ≡ read_on limit names (not_joined NothingMore) lines
  pub later : (limit : ℕ) (names : List ProcessNames) (r : Reading) (lines more : List Line)
      → read_on limit names r (lines ++ more) ≡ read_on limit names (read_on limit names r lines) more

-- what lines give fits, whatever ends them
abbrev pub LinesFit : Type 0
LinesFit = (limit : ℕ) (names : List ProcessNames) (lines : List Line) (stop : Stop) (trace : Trace)
    → result_of (with_end stop (reading_of_lines limit names lines)) ≡ Some (Ok trace)
    → FitsWithin limit names trace
