-- What a recorded stream comes to.
use Rattle.std.proofs.Common.{◌≡◌, ℕ, List, sym, ◌∙◌, ap}
use Rattle.std.specs.Prelude.{Err, IfOk, Ok, Result, Some}
use Rattle.def_format.specs.Lines.{all_lines}
use Rattle.def_format.specs.Names.{ProcessNames}
use Rattle.def_format.specs.ReadingLaws.{FitsWithin, LinesFit}
use Rattle.def_format.specs.Readings.{Ended, result_of, stop_at_end}
use Rattle.def_recordings.specs.Recordings.{long_line, recorded_event_limit, recorded_reading}
use Rattle.pd_events.specs.Views.{result_view}
use Rattle.pd_events.specs.declared.fault.StreamFault.{StreamFault}
use Rattle.read_traces.specs.Views.{trace_view}
use Rattle.read_traces.specs.declared.event.Trace.{Trace}
use Rattle.read_recordings.specs.Rests.{lines_from}
use Rattle.read_recordings.proofs.streams.recorded_stream.Goals as goal

fits : LinesFit → (names : List ProcessNames) (bytes : List ℕ) (given : Result Trace StreamFault)
    → Some (result_view given) ≡ result_of (recorded_reading names bytes)
    → IfOk given (λ trace. FitsWithin recorded_event_limit names (trace_view trace))
fits law names bytes (Ok trace) e =
    law recorded_event_limit names (lines_from 1 bytes) (stop_at_end Ended bytes (long_line 1 (all_lines bytes)))
    (trace_view trace) (sym e)
fits law names bytes (Err fault) e = tt

pub returns-clause-fits : goal.returns-clause-fits
returns-clause-fits c =
    fits c.lines_are_read.ensures.fit c.args.spec.now.names c.args.bytes.now c.outcome.result
    (c.outcome.ensures ∙ ap result_of c.in_ok-progress.ensures.reading)
