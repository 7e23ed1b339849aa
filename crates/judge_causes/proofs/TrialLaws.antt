-- What the program makes of traces stands for the reduced computation, and what is found of it for what is enough.
use Rattle.std.proofs.Common.{◌≡◌, ◌≤◌, ◌+◌, ℕ, zero, suc, Bool, true, List, [], ◌∷◌, length, Option, Some, None, All, refl, ap, sym, subst, ◌∙◌, arith}
use Rattle.std.specs.Prelude.{Contains, IfOk, Result, Ok, Err, option_map, slice_get}
use Rattle.std.proofs.lemmas.List.Elements.{All-cons, All-nil}
use Rattle.def_format.specs.Limits.{event_limit}
use Rattle.def_format.specs.Names.{ProcessNames}
use Rattle.def_format.specs.ReadingLaws.{FitsProcess, FitsSession}
use Rattle.def_model.specs.Events.{Computation, Event, Place, place}
use Rattle.def_model.specs.Predicates.{Initial, Predicate, Recorded}
use Rattle.pd_clock.specs.Computations.{recorded_view}
use Rattle.read_traces.specs.SessionTraces.{AreTraces}
use Rattle.read_traces.specs.Views.{computation_view, trace_view}
use Rattle.read_traces.specs.declared.event.Trace.{Trace}
use Rattle.judge_causes.specs.Reduced.{event_if, is_listed, reduced_from, reduced_processes, reduced_run, reduced_trace, reduced_traces}
use Rattle.judge_causes.specs.Search.{IsTrial, IsTrialOf}
use Rattle.judge_causes.specs.declared.trial.Trial.{Trial}
use Rattle.judge_causes.specs.declared.trial.Trial.TheVariants.{Enough, NotEnough, Undecided}
use Rattle.judge_causes.proofs.EnoughLaws.{enough_more}
use Rattle.judge_causes.proofs.Listed.{contains_if_listed, listed_if_contains}
use Rattle.judge_causes.proofs.ReducedCuts.{enough_if_none, none_if_enough}
use Rattle.judge_causes.proofs.ReducedKinds.{length_reduced}

-- ---- traces

events_view : (is_kept : Place → Bool) (p : ℕ) (traces : List Trace)
    → computation_view (reduced_traces is_kept p traces) ≡ reduced_processes is_kept p (computation_view traces)
events_view is_kept p [] = refl
events_view is_kept p (trace ∷ rest) =
    ap (λ (c : Computation). reduced_from is_kept p 0 trace.events ∷ c) (events_view is_kept (suc p) rest)

pub run_view : (is_kept : Place → Bool) (initial : Initial) (traces : List Trace)
    → recorded_view initial (reduced_traces is_kept 0 traces) ≡ reduced_run is_kept (recorded_view initial traces)
run_view is_kept initial traces =
    ap (λ (events : Computation). let r : Recorded = record { initial = initial; events = events } in r)
    (events_view is_kept 0 traces)

traces_length : (is_kept : Place → Bool) (p : ℕ) (traces : List Trace)
    → length (reduced_traces is_kept p traces) ≡ length traces
traces_length is_kept p [] = refl
traces_length is_kept p (trace ∷ rest) = ap suc (traces_length is_kept (suc p) rest)

get_trace : (is_kept : Place → Bool) (q p : ℕ) (traces : List Trace)
    → slice_get (reduced_traces is_kept q traces) p ≡ option_map (reduced_trace is_kept (q + p)) (slice_get traces p)
get_trace is_kept q p [] = refl
get_trace is_kept q zero (trace ∷ rest) =
    let e : q + 0 ≡ q = omega arith in ap (λ (m : ℕ). Some (reduced_trace is_kept m trace)) (sym e)
get_trace is_kept q (suc p) (trace ∷ rest) =
    let e : suc q + p ≡ q + suc p = omega arith in
    get_trace is_kept (suc q) p rest ∙ ap (λ (m : ℕ). option_map (reduced_trace is_kept m) (slice_get rest p)) e

fits_all : (names : List ProcessNames) (process : ℕ) (is_kept : Place → Bool) (p n : ℕ) (events : List Event)
    → All (FitsProcess names process) events → All (FitsProcess names process) (reduced_from is_kept p n events)
fits_all names process is_kept p n [] fit = All-nil (FitsProcess names process)
fits_all names process is_kept p n (event ∷ rest) fit =
    let first : FitsProcess names process event = fit 0 event (omega arith) in
    All-cons (FitsProcess names process) (event_if (is_kept (place p (suc n))) event)
    (reduced_from is_kept p (suc n) rest) (record { ascend = first.ascend; known = first.known })
    (fits_all names process is_kept p (suc n) rest (λ k d lt. fit (suc k) d (omega arith)))

fits_trace : (names : List ProcessNames) (is_kept : Place → Bool) (p : ℕ) (trace : Trace)
    → FitsSession names (trace_view trace) → FitsSession names (trace_view (reduced_trace is_kept p trace))
fits_trace names is_kept p trace fit = record {
  process_known = fit.process_known;
  few_events =
      let same : length (reduced_from is_kept p 0 trace.events) ≡ length trace.events =
      length_reduced is_kept p 0 trace.events in
      subst (λ (n : ℕ). n ≤ event_limit) (sym same) fit.few_events;
  events_fit = fits_all names trace.process is_kept p 0 trace.events fit.events_fit;
}

pub fit_reduced : (names : List ProcessNames) (is_kept : Place → Bool) (traces : List Trace)
    → AreTraces names traces → AreTraces names (reduced_traces is_kept 0 traces)
fit_reduced names is_kept traces are = record {
  one_each = traces_length is_kept 0 traces ∙ are.one_each;
  process = λ p trace at. process_of p trace (slice_get traces p) refl (sym (get_trace is_kept 0 p traces) ∙ at);
  fit = λ p trace at. fit_of p trace (slice_get traces p) refl (sym (get_trace is_kept 0 p traces) ∙ at);
}
  where
    process_of : (p : ℕ) (trace : Trace) (found : Option Trace) → slice_get traces p ≡ found
        → option_map (reduced_trace is_kept (0 + p)) found ≡ Some trace → trace.process ≡ p
    process_of p trace None at is = absurd (cc)
    process_of p trace (Some old) at is =
        let same : reduced_trace is_kept (0 + p) old ≡ trace = cc in
        sym (ap (λ (t : Trace). t.process) same) ∙ are.process p old at

    fit_of : (p : ℕ) (trace : Trace) (found : Option Trace) → slice_get traces p ≡ found
        → option_map (reduced_trace is_kept (0 + p)) found ≡ Some trace → FitsSession names (trace_view trace)
    fit_of p trace None at is = absurd (cc)
    fit_of p trace (Some old) at is =
        let same : reduced_trace is_kept (0 + p) old ≡ trace = cc in
        subst (λ (t : Trace). FitsSession names (trace_view t)) same
        (fits_trace names is_kept (0 + p) old (are.fit p old at))

-- ---- trials

trial_if : (r : Recorded) (predicate : Predicate) (receipts : List Place) (trial : Trial)
    → IsTrialOf (reduced_run (is_listed receipts) r) predicate trial → IsTrial r predicate receipts trial
trial_if r predicate receipts Enough none =
    enough_more r predicate (λ e. is_listed receipts e ≡ true) (Contains receipts) (contains_if_listed receipts)
    (enough_if_none (is_listed receipts) r predicate none)
trial_if r predicate receipts NotEnough some =
    λ enough. some (none_if_enough (is_listed receipts) r predicate
    (enough_more r predicate (Contains receipts) (λ e. is_listed receipts e ≡ true) (listed_if_contains receipts)
    enough))
trial_if r predicate receipts Undecided undecided = undecided

pub trial_of_reduced : {E : Type 0} (r made : Recorded) (predicate : Predicate) (receipts : List Place)
    (result : Result Trial E) → made ≡ reduced_run (is_listed receipts) r
    → IfOk result (IsTrialOf made predicate) → IfOk result (IsTrial r predicate receipts)
trial_of_reduced r made predicate receipts (Ok trial) is found =
    trial_if r predicate receipts trial (subst (λ (run : Recorded). IsTrialOf run predicate trial) is found)
trial_of_reduced r made predicate receipts (Err e) is found = tt
