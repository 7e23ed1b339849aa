-- What the parts of a computation stand for.
use Rattle.std.specs.Prelude.{◌≡◌, ℕ, ◌≤◌, ◌++◌, List, length, map, All, ℤ, Vec, slice_get, Some}
use Rattle.std.specs.Global.{Global}
use Rattle.def_model.specs.Events.{Event, events_of, event_count}
use Rattle.def_format.specs.Limits.{event_limit, process_limit}
use Rattle.def_model.specs.Predicates.{Initial, Recorded}
use Rattle.pd_clock.specs.States.{history_at, values_at}
use Rattle.pd_clock.specs.Histories.{AreVars, rows_after}
use Rattle.read_traces.specs.Views.{computation_view}
use Rattle.read_traces.specs.declared.event.Trace.{Trace}

-- the initial values of each process
abbrev pub initial_view : List (Vec ℤ Global) → Initial
initial_view rows = map (λ (row : Vec ℤ Global). row.items) rows

-- what these traces record, with these values before them
abbrev pub recorded_view : Initial → List Trace → Recorded
recorded_view initial traces = record { initial = initial; events = computation_view traces }

-- one process or more, each with its variables, and its events, which set variables that are there; no limit is passed
pub record FitsInitial (initial : List (Vec ℤ Global)) (traces : List Trace) : Type 0 where
  pub same : length initial ≡ length traces
  pub some : 1 ≤ length traces
  pub few : length traces ≤ process_limit
  pub short : (p : ℕ) → event_count (computation_view traces) p ≤ event_limit
  pub vars : (p : ℕ) (process : Trace) → slice_get traces p ≡ Some process
      → All (λ (event : Event). AreVars (length (values_at initial p)) event.sets) process.events

-- the history of each process: its initial values and the row after each event
pub record Keeps (initial : List (Vec ℤ Global)) (traces : List Trace) (histories : List (List ℤ)) : Type 0 where
  pub fits : FitsInitial initial traces
  pub one_each : length histories ≡ length initial
  pub rows : (p : ℕ) → history_at histories p ≡ values_at initial p
      ++ rows_after (values_at initial p) (events_of (computation_view traces) p)
