-- The law of a stream's lines: after the join each line that isn't blank has one of the events, in their order.
use Rattle.std.specs.Prelude.{◌≡◌, ℕ, List, ◌∷◌, ◌++◌, Some, None, Ok}
use Rattle.std.specs.List.{AllZip}
use Rattle.def_model.specs.Events.{Event}
use Rattle.def_format.specs.Lines.{Line, finished_lines}
use Rattle.def_format.specs.Names.{ProcessNames}
use Rattle.def_format.specs.Readings.{Ended, Trace, reading, result_of}
use Rattle.def_format.specs.Records.{Happens, Joins, record_of}

-- the line records this event of a process
abbrev pub Records : List ProcessNames → (process : ℕ) → Event → Line → Type 0
Records names process event line = record_of names (Some process) line.bytes ≡ Ok (Happens event)

-- the lines of a stream's bytes: the join of the trace's process, those of its events, and others
pub record AreRecorded (names : List ProcessNames) (bytes : List ℕ) (trace : Trace) : Type 0 where
  pub join : Line
  pub own : List Line
  pub others : List Line
  pub are_lines : finished_lines bytes ≡ join ∷ (own ++ others)
  pub joined : record_of names None join.bytes ≡ Ok (Joins trace.process)
  pub recorded : AllZip (Records names trace.process) trace.events own

abbrev pub EventsAreRecorded : Type 0
EventsAreRecorded =
    (names : List ProcessNames) (bytes : List ℕ) (trace : Trace)
    → result_of (reading names Ended bytes) ≡ Some (Ok trace) → AreRecorded names bytes trace
