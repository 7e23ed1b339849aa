-- The traces of a session fit its initial values.
use Rattle.std.proofs.Common.{◌≡◌, ℕ, zero, suc, ◌≤◌, List, [], ◌∷◌, length, get_or, refl, sym, ap, ◌∙◌, subst, arith, ℤ, Some, None, Option, All}
use Rattle.std.specs.Prelude.{slice_get, slice_index_or, Vec}
use Rattle.std.specs.Global.{Global}
use Rattle.std.proofs.lemmas.List.{length-map}
use Rattle.def_model.specs.Events.{Event, events_of, event_count}
use Rattle.def_format.specs.Limits.{event_limit, process_limit}
use Rattle.def_format.specs.Names.{ProcessNames, vars_of}
use Rattle.def_format.specs.ReadingLaws.{FitsProcess}
use Rattle.read_traces.specs.InitialRows.{AreInitialRows}
use Rattle.read_traces.specs.SessionTraces.{AreTraces}
use Rattle.read_traces.specs.Views.{computation_view}
use Rattle.read_traces.specs.declared.event.Trace.{Trace}
use Rattle.pd_clock.specs.Histories.{AreVars}
use Rattle.pd_clock.specs.Computations.{FitsInitial, initial_view}
use Rattle.pd_clock.specs.States.{values_at}

-- ---- the rows

-- a row's values are what stands in its place
row_at : (rows : List (Vec ℤ Global)) (p : ℕ) → values_at rows p ≡ slice_index_or (initial_view rows) p []
row_at [] p = refl
row_at (row ∷ rows) zero = refl
row_at (row ∷ rows) (suc p) = row_at rows p

-- a row has a value for each variable of its process
row_width : (names : List ProcessNames) (rows : List (Vec ℤ Global)) (p : ℕ) → AreInitialRows names (initial_view rows)
    → length (values_at rows p) ≡ length (vars_of names p)
row_width names rows p fit = ap length (row_at rows p) ∙ fit.values p

-- ---- the events of a process

abbrev view_in : Option Trace → List Event
view_in None = []
view_in (Some trace) = trace.events

events_at : (traces : List Trace) (p : ℕ) → events_of (computation_view traces) p ≡ view_in (slice_get traces p)
events_at [] p = refl
events_at (trace ∷ traces) zero = refl
events_at (trace ∷ traces) (suc p) = events_at traces p

-- events set variables that are there
known_vars : (names : List ProcessNames) (p n : ℕ) → length (vars_of names p) ≡ n → (events : List Event)
    → All (FitsProcess names p) events → All (λ (event : Event). AreVars n event.sets) events
known_vars names p n same events fits k d lt =
    subst (λ (m : ℕ). AreVars m (get_or events k d).sets) same (fits k d lt).known

traces_short : (names : List ProcessNames) (traces : List Trace) → AreTraces names traces → (p : ℕ)
    → event_count (computation_view traces) p ≤ event_limit
traces_short names traces are p = rw (events_at traces p) (short_in (slice_get traces p) refl)
  where
    short_in : (found : Option Trace) → slice_get traces p ≡ found → length (view_in found) ≤ event_limit
    short_in None at = omega arith
    short_in (Some trace) at = (are.fit p trace at).few_events

pub fits_initial : (names : List ProcessNames) (rows : List (Vec ℤ Global)) (traces : List Trace)
    → AreInitialRows names (initial_view rows) → AreTraces names traces → length traces ≤ process_limit
    → FitsInitial rows traces
fits_initial names rows traces fit are few = record {
  same = sym (length-map rows (λ (row : Vec ℤ Global). row.items)) ∙ (fit.one_each ∙ sym are.one_each);
  some = let e : length traces ≡ length names = are.one_each in let s : 1 ≤ length names = fit.some in
      omega arith;
  few = few;
  short = traces_short names traces are;
  vars = λ p trace at.
      let same : trace.process ≡ p = are.process p trace at in
      known_vars names p (length (values_at rows p)) (sym (row_width names rows p fit)) trace.events
      (subst (λ (q : ℕ). All (FitsProcess names q) trace.events) same (are.fit p trace at).events_fit);
}
