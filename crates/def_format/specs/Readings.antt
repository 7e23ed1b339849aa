-- What a stream's bytes give: the records of its lines up to the end line or the first fault.
use Rattle.std.specs.Prelude.{ℕ, suc, ◌+◌, nat_lt, if◌then◌else◌, List, [], ◌∷◌, Option, Some, None, Result, Ok, Err}
use Rattle.def_model.specs.Events.{Event}
use Rattle.def_format.specs.Lines.{Line, FrameFault, frame_fault, open_lines, finished_lines, line_count, line_number}
use Rattle.def_format.specs.Lines as lines
use Rattle.def_format.specs.Names.{ProcessNames}
use Rattle.def_format.specs.Records.{RecordFault, Join, LineRecord, Joins, Happens, Ends, record_of}
use Rattle.def_format.specs.Limits.{event_limit}

-- whether more bytes may come, the input ended, or a read of it failed
pub data Ending : Type 0 where
  Open : Ending
  Ended : Ending
  Failed : Ending

pub data StreamKind : Type 0 where
  LineTooLong : StreamKind
  StreamTooLong : StreamKind
  InRecord : RecordFault → StreamKind
  TooManyEvents : StreamKind
  Unended : StreamKind
  ReadFailed : StreamKind

-- why the records go no further: nothing more has come, or the end line, or a fault in this line
pub data Stop : Type 0 where
  NothingMore : Stop
  EndLine : Stop
  Fault : ℕ → StreamKind → Stop

-- the events, and why there are no more
pub record Course : Type 0 where
  pub events : List Event
  pub stop : Stop

abbrev pub stopped : Stop → Course
stopped stop = record { events = []; stop = stop }

abbrev pub with_first : Event → Course → Course
with_first event later = record { events = event ∷ later.events; stop = later.stop }

-- A line's record, after this many events, and then the later lines, of a process that may have as many events as the
-- limit says.
abbrev pub course_from : (limit : ℕ) → ℕ → ℕ → Result LineRecord RecordFault → Course → Course
course_from limit before number (Ok (Joins process)) later = stopped (Fault number (InRecord Join))
course_from limit before number (Ok (Happens event)) later =
    if nat_lt before limit then with_first event later else stopped (Fault number TooManyEvents)
course_from limit before number (Ok Ends) later = stopped EndLine
course_from limit before number (Err fault) later = stopped (Fault number (InRecord fault))

-- the lines after the join of a process, after this many events
abbrev pub course_of : (limit : ℕ) → List ProcessNames → ℕ → ℕ → List Line → Course
course_of limit names process before [] = stopped NothingMore
course_of limit names process before (line ∷ later) =
    course_from limit before line.number (record_of names (Some process) line.bytes)
    (course_of limit names process (suc before) later)

-- the process with the line of its join, if it joined; its events; and why there are no more
pub record Reading : Type 0 where
  pub joined : Option (ℕ × ℕ)
  pub events : List Event
  pub stop : Stop

abbrev pub not_joined : Stop → Reading
not_joined stop = record { joined = None; events = []; stop = stop }

-- the first line's record, and what the later lines are for a process
abbrev pub reading_from : ℕ → Result LineRecord RecordFault → (ℕ → Course) → Reading
reading_from number (Ok (Joins process)) later =
    record { joined = Some (process, number); events = (later process).events; stop = (later process).stop }
reading_from number (Ok (Happens event)) later = not_joined (Fault number (InRecord Join))
reading_from number (Ok Ends) later = not_joined (Fault number (InRecord Join))
reading_from number (Err fault) later = not_joined (Fault number (InRecord fault))

-- the reading of lines, if a process may have as many events as the limit says
abbrev pub reading_of_lines : (limit : ℕ) → List ProcessNames → List Line → Reading
reading_of_lines limit names [] = not_joined NothingMore
reading_of_lines limit names (first ∷ later) =
    reading_from first.number (record_of names None first.bytes)
    (λ process. course_of limit names process 0 later)

abbrev pub lines_of : Ending → List ℕ → List Line
lines_of Open bytes = open_lines bytes
lines_of Ended bytes = finished_lines bytes
lines_of Failed bytes = open_lines bytes

-- how bytes end of which no line is an end line or at fault
abbrev pub stop_at_end : Ending → List ℕ → Option FrameFault → Stop
stop_at_end ending bytes (Some (lines.LineTooLong number)) = Fault number LineTooLong
stop_at_end ending bytes (Some (lines.StreamTooLong number)) = Fault number StreamTooLong
stop_at_end Open bytes None = NothingMore
stop_at_end Ended bytes None = Fault (line_count bytes + 1) Unended
stop_at_end Failed bytes None = Fault (line_number bytes) ReadFailed

abbrev pub stop_or : Stop → Stop → Stop
stop_or NothingMore later = later
stop_or EndLine later = EndLine
stop_or (Fault number kind) later = Fault number kind

abbrev pub with_end : Stop → Reading → Reading
with_end stop reading = record { joined = reading.joined; events = reading.events; stop = stop_or reading.stop stop }

-- the reading of a stream's bytes
abbrev pub reading : List ProcessNames → Ending → List ℕ → Reading
reading names ending bytes =
    with_end (stop_at_end ending bytes (frame_fault bytes)) (reading_of_lines event_limit names (lines_of ending bytes))

-- ---- what is reported of a reading

pub data StreamState : Type 0 where
  Fresh : StreamState
  Joined : StreamState
  HasEnded : StreamState
  Faulted : StreamState

abbrev pub stream_state : Stop → Option (ℕ × ℕ) → StreamState
stream_state NothingMore None = Fresh
stream_state NothingMore (Some joined) = Joined
stream_state EndLine joined = HasEnded
stream_state (Fault number kind) joined = Faulted

abbrev pub state : Reading → StreamState
state r = stream_state r.stop r.joined

-- the end line or a fault is there
pub data IsClosed : Stop → Type 0 where
  by_end_line : IsClosed EndLine
  by_fault : {number : ℕ} {kind : StreamKind} → IsClosed (Fault number kind)

pub record Trace : Type 0 where
  pub process : ℕ
  pub join_line : ℕ
  pub events : List Event

pub record StreamFault : Type 0 where
  pub line : ℕ
  pub kind : StreamKind

-- the trace of a stream that has its end line, or its fault; none while more may come
abbrev pub result_by_stop : Stop → Option (ℕ × ℕ) → List Event → Option (Result Trace StreamFault)
result_by_stop (Fault number kind) joined events = Some (Err (record { line = number; kind = kind }))
result_by_stop EndLine (Some (process, join_line)) events =
    Some (Ok (record { process = process; join_line = join_line; events = events }))
result_by_stop EndLine None events = None
result_by_stop NothingMore joined events = None

abbrev pub result_of : Reading → Option (Result Trace StreamFault)
result_of r = result_by_stop r.stop r.joined r.events
