-- What the program's inputs, readings, traces and faults stand for.
use Rattle.std.specs.Prelude.{◌≡◌, ℕ, Bool, false, ◌==◌, List, map, Option, Some, None, Result, Ok, Err, IfOk, MatchResult, MatchOption, Vec}
use Rattle.std.specs.Global.{Global}
use Rattle.def_format.specs.Names.{ProcessNames}
use Rattle.def_format.specs.Readings as readings
use Rattle.def_format.specs.Limits.{event_limit}
use Rattle.def_format.specs.ReadingLaws.{FitsWithin}
use Rattle.def_format.specs.Sessions as sessions
use Rattle.read_traces.specs.Views.{trace_view}
use Rattle.pd_events.specs.Views.{result_view, stream_fault_view}
use Rattle.read_traces.specs.declared.event.Trace.{Trace}
use Rattle.pd_events.specs.declared.fault.StreamFault.{StreamFault}
use Rattle.pd_gather.specs.declared.input.Input.{Input}
use Rattle.pd_gather.specs.declared.input.Input.TheVariants as inputs
use Rattle.pd_gather.specs.declared.fault.SessionFault.{SessionFault}
use Rattle.pd_gather.specs.declared.fault.SessionFault.TheVariants as faults

abbrev pub input_view : Input → sessions.Input
input_view (inputs.Piece bytes) = sessions.Piece bytes.now
input_view inputs.End = sessions.AtEnd
input_view inputs.Failed = sessions.Broken

abbrev pub results_view : List (Result Trace StreamFault) → List sessions.StreamResult
results_view given = map result_view given

-- whether it is a trace of this process
abbrev pub is_trace_of : ℕ → Result Trace StreamFault → Bool
is_trace_of process (Ok trace) = trace.process == process
is_trace_of process (Err fault) = false

abbrev pub traces_view : List Trace → List readings.Trace
traces_view traces = map trace_view traces

-- the fault that is reported, if it isn't out of memory
abbrev pub session_fault_view : SessionFault → Option sessions.SessionFault
session_fault_view faults.Streams = Some sessions.TooManyStreams
session_fault_view (faults.Stream stream fault) = Some (sessions.Stream stream (stream_fault_view fault))
session_fault_view (faults.Taken stream line) = Some (sessions.Taken stream line)
session_fault_view (faults.Absent process) = Some (sessions.Absent process)
session_fault_view faults.Memory = None

-- the answer is these traces or this fault, or that memory ran out
abbrev pub IsSession : Result (List readings.Trace) sessions.SessionFault → Result (Vec Trace Global) SessionFault
    → Type 0
IsSession due answer =
    MatchResult answer (λ traces. due ≡ Ok (traces_view traces.items)) (λ fault.
    MatchOption (session_fault_view fault) (Unit {0}) (λ f. due ≡ Err f))

-- what a stream gave fits the session's names, and has at most as many events as the limit says
abbrev pub ReadingFitsWithin : (limit : ℕ) → List ProcessNames → Result Trace StreamFault → Type 0
ReadingFitsWithin limit names given = IfOk given (λ trace. FitsWithin limit names (trace_view trace))

-- the same within the limit of a session
abbrev pub ReadingFits : List ProcessNames → Result Trace StreamFault → Type 0
ReadingFits names given = ReadingFitsWithin event_limit names given
