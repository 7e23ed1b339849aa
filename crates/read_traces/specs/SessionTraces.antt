-- What holds of the traces of a session.
use Rattle.std.specs.Prelude.{◌≡◌, ℕ, List, length, Some, slice_get}
use Rattle.def_format.specs.Names.{ProcessNames}
use Rattle.def_format.specs.ReadingLaws.{FitsWithin}
use Rattle.def_format.specs.Limits.{event_limit}
use Rattle.read_traces.specs.Views.{trace_view}
use Rattle.read_traces.specs.declared.event.Trace.{Trace}

-- One trace for each process, in the processes' order, each of which has at most as many events as the limit says.
pub record AreTracesWithin (limit : ℕ) (names : List ProcessNames) (traces : List Trace) : Type 0 where
  pub one_each : length traces ≡ length names
  pub process : (p : ℕ) (trace : Trace) → slice_get traces p ≡ Some trace → trace.process ≡ p
  pub fit : (p : ℕ) (trace : Trace) → slice_get traces p ≡ Some trace → FitsWithin limit names (trace_view trace)

-- the traces of a session
abbrev pub AreTraces : List ProcessNames → List Trace → Type 0
AreTraces names traces = AreTracesWithin event_limit names traces
