-- What the program's records and faults stand for.
use Rattle.std.specs.Prelude.{◌≡◌, Result, Ok, Err, MatchResult, MatchOption}
use Rattle.def_format.specs.Records as records
use Rattle.def_format.specs.Readings as readings
use Rattle.read_traces.specs.Views.{event_view, trace_view}
use Rattle.read_traces.specs.declared.event.Trace.{Trace}
use Rattle.pd_events.specs.Faults.{record_fault_view}
use Rattle.pd_events.specs.declared.line_record.LineRecord.{LineRecord}
use Rattle.pd_events.specs.declared.line_record.LineRecord.TheVariants as says
use Rattle.pd_events.specs.declared.fault.RecordFault.{RecordFault}
use Rattle.pd_events.specs.declared.fault.StreamKind.{StreamKind}
use Rattle.pd_events.specs.declared.fault.StreamKind.TheVariants as wrong
use Rattle.pd_events.specs.declared.fault.StreamFault.{StreamFault}
use Rattle.pd_events.specs.declared.fault.StreamState.{StreamState}
use Rattle.pd_events.specs.declared.fault.StreamState.TheVariants as states

abbrev pub record_view : LineRecord → records.LineRecord
record_view (says.Join process) = records.Joins process
record_view (says.Happened event) = records.Happens (event_view event)
record_view says.Finish = records.Ends

-- the answer is this record or fault, or that memory ran out
abbrev pub IsRecord : Result records.LineRecord records.RecordFault → Result LineRecord RecordFault → Type 0
IsRecord due answer =
    MatchResult answer (λ reported_record. due ≡ Ok (record_view reported_record)) (λ fault.
    MatchOption (record_fault_view fault) (Unit {0}) (λ f. due ≡ Err f))

abbrev pub stream_kind_view : StreamKind → readings.StreamKind
stream_kind_view wrong.LineTooLong = readings.LineTooLong
stream_kind_view wrong.StreamTooLong = readings.StreamTooLong
stream_kind_view wrong.Json = readings.InRecord records.Json
stream_kind_view wrong.Shape = readings.InRecord records.Shape
stream_kind_view wrong.Join = readings.InRecord records.Join
stream_kind_view wrong.UnknownProcess = readings.InRecord records.UnknownProcess
stream_kind_view wrong.UnknownVar = readings.InRecord records.UnknownVar
stream_kind_view wrong.Value = readings.InRecord records.Value
stream_kind_view wrong.MessageId = readings.InRecord records.MessageId
stream_kind_view wrong.Events = readings.TooManyEvents
stream_kind_view wrong.Unended = readings.Unended
stream_kind_view wrong.Read = readings.ReadFailed

abbrev pub stream_fault_view : StreamFault → readings.StreamFault
stream_fault_view fault = record { line = fault.line; kind = stream_kind_view fault.kind }

abbrev pub state_view : StreamState → readings.StreamState
state_view states.Fresh = readings.Fresh
state_view states.Joined = readings.Joined
state_view states.Ended = readings.HasEnded
state_view states.Faulted = readings.Faulted

abbrev pub result_view : Result Trace StreamFault → Result readings.Trace readings.StreamFault
result_view (Ok trace) = Ok (trace_view trace)
result_view (Err fault) = Err (stream_fault_view fault)
