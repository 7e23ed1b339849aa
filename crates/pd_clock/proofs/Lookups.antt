-- What is looked up at a cut is the state there.
use Rattle.std.proofs.Common.{◌≡◌, ℕ, ◌+◌, ◌*◌, ◌<◌, ◌≤◌, List, length, get_or, take, refl, sym, ◌∙◌, arith, length-append, inl, inr, ◌⊎◌, ℤ, pos}
use Rattle.std.specs.Prelude.{slice_get, Vec}
use Rattle.std.specs.Global.{Global}
use Rattle.std.proofs.lemmas.Bool.{cases_lt, lt-ltb, le-ltb}
use Rattle.std.proofs.lemmas.Option.{slice_get-get_or, slice_get_past}
use Rattle.std.proofs.Math.Nat.{mul-le-mul_right}
use Rattle.def_model.specs.Events.{event_count, events_of}
use Rattle.def_model.specs.Cuts.{FitsProcesses}
use Rattle.def_model.specs.Predicates.{last_set_if_there, state_at}
use Rattle.pd_clock.specs.Histories.{rows_after}
use Rattle.read_traces.specs.declared.event.Trace.{Trace}
use Rattle.pd_clock.specs.Computations.{Keeps, initial_view}
use Rattle.read_traces.specs.Views.{computation_view}
use Rattle.std.proofs.lemmas.List.{length-map}
use Rattle.pd_clock.specs.States.{IsLookedUp, history_at, values_at, value_at}
use Rattle.pd_clock.proofs.Rows.{history-at, length-rows_after}
use Rattle.pd_clock.proofs.Parts.{initial_read}

pub value_is_state : (initial : List (Vec ℤ Global)) (traces : List Trace) (histories : List (List ℤ))
    → Keeps initial traces histories → (counts : List ℕ) (p v : ℕ)
    → get_or counts p 0 ≤ event_count (computation_view traces) p → value_at initial histories counts p v
    ≡ state_at (initial_view initial) (computation_view traces) counts p v
value_is_state initial traces histories keeps counts p v le =
    rw (initial_read initial p) (go (cases_lt v (length (values_at initial p))))
  where
    go : (v < length (values_at initial p)) ⊎ (length (values_at initial p) ≤ v) → value_at initial histories counts p v
        ≡ last_set_if_there v (slice_get (values_at initial p) v)
        (take (get_or counts p 0) (events_of (computation_view traces) p))
    go (inl lt) =
        rw (
          lt-ltb v (length (values_at initial p)) lt,
          slice_get-get_or (values_at initial p) v (pos 0) lt,
          keeps.rows p,
        )
        (history-at (values_at initial p) (events_of (computation_view traces) p) (get_or counts p 0) v le lt)
    go (inr past) = rw (le-ltb v (length (values_at initial p)) past, slice_get_past (values_at initial p) v past) refl

-- there is a row after each event
pub row_there : (initial : List (Vec ℤ Global)) (traces : List Trace) (histories : List (List ℤ))
    → Keeps initial traces histories → (p count : ℕ) → count ≤ event_count (computation_view traces) p
    → count * length (values_at initial p) + length (values_at initial p) ≤ length (history_at histories p)
row_there initial traces histories keeps p count le =
    let row : length (rows_after (values_at initial p) (events_of (computation_view traces) p))
    ≡ event_count (computation_view traces) p * length (values_at initial p) =
    length-rows_after (values_at initial p) (events_of (computation_view traces) p) in
    let few : count * length (values_at initial p)
    ≤ event_count (computation_view traces) p * length (values_at initial p) =
    mul-le-mul_right (length (values_at initial p)) le in
    rw (
      keeps.rows p,
      length-append (values_at initial p)
          (rows_after (values_at initial p) (events_of (computation_view traces) p)),
      row,
    ) (omega arith)

trace_count : (traces : List Trace) → length (computation_view traces) ≡ length traces
trace_count traces = length-map traces (λ (process : Trace). process.events)

pub is_looked_up : (initial : List (Vec ℤ Global)) (traces : List Trace) (histories : List (List ℤ))
    → Keeps initial traces histories → (counts : List ℕ) → FitsProcesses (computation_view traces) counts
    → IsLookedUp initial histories counts
is_looked_up initial traces histories keeps counts fits = record {
  histories_there = keeps.one_each;
  counts_there = fits.one_each ∙ (trace_count traces ∙ sym keeps.fits.same);
  rows_there = λ p. row_there initial traces histories keeps p (get_or counts p 0) (fits.within p);
}

-- what is asked of one process that is there
pub count_there : (initial : List (Vec ℤ Global)) (traces : List Trace) (histories : List (List ℤ))
    → Keeps initial traces histories → (p count : ℕ) → p < length initial
    → (p < length (computation_view traces) → count ≤ event_count (computation_view traces) p)
    → count ≤ event_count (computation_view traces) p
count_there initial traces histories keeps p count lt within =
    let same : length initial ≡ length traces = keeps.fits.same in
    within (omega (arith, trace_count traces))
