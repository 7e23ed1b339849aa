-- Whole traces are a reduction.
use Rattle.std.proofs.Common.{◌≡◌, ℕ, zero, suc, ◌+◌, ◌<◌, ◌≤◌, ◌⊎◌, inl, inr, List, [], ◌∷◌, ◌++◌, length, get_or, All, Option, None, Some, refl, sym, ap, ◌∙◌, subst, arith}
use Rattle.std.specs.Prelude.{Err, IfOk, IfSome, Ok, Result, slice_get}
use Rattle.std.proofs.lemmas.Bool.{cases_lt}
use Rattle.std.proofs.lemmas.List.{get_or_append_left, get_or_past, get_or_push, length-map}
use Rattle.def_format.specs.Documents.{Document, NamedPredicate}
use Rattle.def_format.specs.Names.{ProcessNames}
use Rattle.def_format.specs.ReadingLaws.{FitsProcess}
use Rattle.def_model.specs.Events.{Event, event_count, events_of, numbered}
use Rattle.def_model.specs.Order.{HasNoCycle}
use Rattle.def_model.specs.Predicates.{Recorded}
use Rattle.def_orders.specs.Orders.{AreKept, IsOver}
use Rattle.def_orders.proofs.KeptImages.{is_listed}
use Rattle.read_traces.specs.SessionTraces.{AreTraces}
use Rattle.read_traces.specs.Views.{computation_view}
use Rattle.read_traces.specs.declared.event.Trace.{Trace}
use Rattle.judge_orders.specs.Growth.{SeeNoOther}
use Rattle.judge_orders.specs.KeptEvents.{AllKept}
use Rattle.judge_reduced.specs.Planned.{AreListed, AreWhole, IsWhole}
use Rattle.judge_reduced.specs.Plans.{AreReduced, IsReducedRun}
use Rattle.judge_reduced.specs.Reductions.{IsReductionOf, reduced_view}
use Rattle.judge_reduced.proofs.Appended.{one_longer}
use Rattle.judge_reduced.proofs.Imaging.{planned_all}
use Rattle.judge_reduced.proofs.Made.{has_no_cycle, is_made}
use Rattle.judge_reduced.proofs.LawfulMessages.{lawful}

-- a list of what there is for each number below n
chosen : {A : Type 0} (d : A) (P : ℕ → A → Type 0) (n : ℕ) → ((k : ℕ) → k < n → (x : A) × P k x)
    → (xs : List A) × (length xs ≡ n) × ((k : ℕ) → k < n → P k (get_or xs k d))
chosen d P zero each = ([], refl, λ k lt. absurd (omega arith))
chosen {A} d P (suc n) each = go (chosen d P n (λ k lt. each k (omega arith))) (each n (omega arith))
  where
    go : (xs : List A) × (length xs ≡ n) × ((k : ℕ) → k < n → P k (get_or xs k d)) → (x : A) × P n x
        → (xs : List A) × (length xs ≡ suc n) × ((k : ℕ) → k < suc n → P k (get_or xs k d))
    go (xs, many, all) (x, here) = (
      xs ++ x ∷ [],
      (let more : length (xs ++ x ∷ []) ≡ length xs + 1 = one_longer xs x in omega arith),
      λ k lt. pick k lt (cases_lt k n),
    )
      where
        pick : (k : ℕ) → k < suc n → (k < n) ⊎ (n ≤ k) → P k (get_or (xs ++ x ∷ []) k d)
        pick k lt (inl less) =
            subst (P k) (sym (get_or_append_left xs (x ∷ []) d k (omega arith))) (all k less)
        pick k lt (inr ge) =
            let same : n ≡ k = omega arith in
            subst (λ (j : ℕ). P j (get_or (xs ++ x ∷ []) j d)) same
            (subst (P n) (sym (get_or_push xs x d n many)) here)

-- what there is at a place
trace_there : (traces : List Trace) (p : ℕ) → p < length traces → (trace : Trace) × (slice_get traces p ≡ Some trace)
    × (events_of (computation_view traces) p ≡ trace.events)
trace_there [] p lt = absurd (omega arith)
trace_there (x ∷ traces) zero lt = (x, refl, refl)
trace_there (x ∷ traces) (suc p) lt = trace_there traces p (omega arith)

trace_within : (traces : List Trace) (p : ℕ) (trace : Trace) → slice_get traces p ≡ Some trace → p < length traces
trace_within [] p trace at = absurd (cc)
trace_within (x ∷ traces) zero trace at = omega arith
trace_within (x ∷ traces) (suc p) trace at = let lt : p < length traces = trace_within traces p trace at in omega arith

-- a process of no events
reduced_none : (r : Recorded) (vars : List ℕ) (numbers : List (List ℕ)) (p : ℕ)
    → length (get_or numbers p []) ≡ 0 → AreReduced r vars numbers p [] []
reduced_none r vars numbers p none = record {
  as_many = sym none;
  ascend = λ k l d lt in_l. absurd (omega arith);
  images = λ k lt. absurd (omega arith);
  receipts = λ n e at out. absurd (none_numbered n e at);
  needed = λ l q k lt other in_q before most none. absurd (omega arith);
}
  where
    none_numbered : (n : ℕ) (e : Event) → numbered [] n ≡ Some e → ⊥
    none_numbered zero e at = cc
    none_numbered (suc n) e at = cc

kept_none : (r : Recorded) (p : ℕ) (vars numbers : List ℕ) → event_count r.events p ≡ 0 → length numbers ≡ 0
    → AreKept r p vars numbers
kept_none r p vars numbers none empty = record {
  ascend = λ i j d lt within. absurd (omega arith);
  events = λ i d within. absurd (omega arith);
  changes = λ n (i, within, at). absurd (omega arith);
  others = λ n lt out. absurd (omega arith);
}

module _ (r : Recorded) (named numbers : List (List ℕ)) (all_named : length named ≡ length r.events)
    (all_kept : length numbers ≡ length r.events) (kept : AllKept r named numbers (length r.events)) where
  pub kept_at : (p : ℕ) → AreKept r p (get_or named p []) (get_or numbers p [])
  kept_at p = go (cases_lt p (length r.events))
    where
      go : (p < length r.events) ⊎ (length r.events ≤ p) → AreKept r p (get_or named p []) (get_or numbers p [])
      go (inl low) = kept p low
      go (inr past) =
          kept_none r p (get_or named p []) (get_or numbers p []) (ap length (get_or_past r.events p [] past))
          (ap length (get_or_past numbers p [] (omega arith)))

  pub are_listed : AreListed r.events numbers
  are_listed = record { ascend = λ p. (kept_at p).ascend; events = λ p. (kept_at p).events }

  module _ (names : List ProcessNames) (traces : List Trace)
      (whole : AreWhole names r named numbers (length r.events) traces) where
    abbrev IsPlace : ℕ → List ℕ → Type 0
    IsPlace p places =
        AreReduced r (get_or named p []) numbers p (events_of (computation_view traces) p) places

    place_of : (p : ℕ) → p < length r.events → (places : List ℕ) × IsPlace p places
    place_of p lt = go (trace_there traces p (let many : length traces ≡ length r.events = whole.many in omega arith))
      where
        go : (trace : Trace) × (slice_get traces p ≡ Some trace)
            × (events_of (computation_view traces) p ≡ trace.events) → (places : List ℕ) × IsPlace p places
        go (trace, at, same) =
            let is : IsWhole names r (get_or named p []) numbers p trace.events = whole.whole p trace at in (
              is.plan.places,
              subst (λ (events : List Event). AreReduced r (get_or named p []) numbers p events is.plan.places)
                  (sym same)
                  (planned_all names r (get_or named p []) numbers p (length (get_or numbers p [])) trace.events is.last
                  is.plan refl),
            )

    places_there : (places : List (List ℕ)) × (length places ≡ length r.events)
        × ((p : ℕ) → p < length r.events → IsPlace p (get_or places p []))
    places_there = chosen [] IsPlace (length r.events) place_of

    is_reduced : (places : List (List ℕ)) → length places ≡ length r.events
        → ((p : ℕ) → p < length r.events → IsPlace p (get_or places p []))
        → IsReducedRun r named numbers (computation_view traces) places
    is_reduced places many each = record {
      as_many = length-map traces (λ (process : Trace). process.events) ∙ whole.many;
      all_named = all_named;
      kept = kept_at;
      each = λ p. go p (cases_lt p (length r.events));
    }
      where
        go : (p : ℕ) → (p < length r.events) ⊎ (length r.events ≤ p) → IsPlace p (get_or places p [])
        go p (inl low) = each p low
        go p (inr past) =
            subst (IsPlace p) (sym (get_or_past places p [] (omega arith)))
            (subst (λ (events : List Event). AreReduced r (get_or named p []) numbers p events [])
            (sym (get_or_past (computation_view traces) p []
            (let long : length (computation_view traces) ≡ length traces =
            length-map traces (λ (process : Trace). process.events) in
            let all : length traces ≡ length r.events = whole.many in omega arith)))
            (reduced_none r (get_or named p []) numbers p (ap length (get_or_past numbers p [] (omega arith)))))

    are_traces : length r.events ≡ length names → AreTraces names traces
    are_traces long = record {
      one_each = whole.many ∙ long;
      process = whole.process;
      fit = λ p trace at.
          let is : IsWhole names r (get_or named p []) numbers p trace.events = whole.whole p trace at in
          let here : trace.process ≡ p = whole.process p trace at in
          let low : p < length traces = trace_within traces p trace at in
          let many : length traces ≡ length r.events = whole.many in record {
            process_known = omega arith;
            few_events = is.few;
            events_fit = subst (λ (q : ℕ). All (FitsProcess names q) trace.events) (sym here) is.plan.fit;
          };
    }

  pub is_reduction : (document : Document) (traces : List Trace) → HasNoCycle r.events
      → length r.events ≡ length document.names
      → All (λ (asked : NamedPredicate). IsOver named asked.predicate) document.predicates
      → SeeNoOther named (length r.events) document.predicates
      → AreWhole document.names r named numbers (length r.events) traces → IsReductionOf document r traces
  is_reduction document traces acyclic long over just whole = go (places_there document.names traces whole)
    where
      go : (places : List (List ℕ)) × (length places ≡ length r.events)
          × ((p : ℕ) → p < length r.events → IsPlace document.names traces whole p (get_or places p []))
          → IsReductionOf document r traces
      go (places, many, each) =
          let is : IsReducedRun r named numbers (computation_view traces) places =
          is_reduced document.names traces whole places many each in record {
            are_traces = are_traces document.names traces whole long;
            lawful = lawful r named numbers (computation_view traces) places is;
            no_cycle = has_no_cycle r (reduced_view r traces) named numbers places refl is acyclic;
            kept = is_listed numbers;
            kept' = is_listed places;
            made = λ k d lt. is_made r (reduced_view r traces) named numbers places refl is
                (get_or document.predicates k d).predicate (over k d lt);
            numbers = numbers;
            are_kept = record { named = named; one_each = all_named; over = over; just = just; kept = kept };
            places = places;
            events = is;
          }

-- ---- one trace more

pub whole_none : (names : List ProcessNames) (r : Recorded) (named numbers : List (List ℕ))
    → AreWhole names r named numbers 0 []
whole_none names r named numbers = record {
  many = refl;
  process = λ p trace at. absurd (none p trace at);
  whole = λ p trace at. absurd (none p trace at);
}
  where
    none : (p : ℕ) (trace : Trace) → slice_get [] p ≡ Some trace → ⊥
    none p trace at = cc

trace_more : (traces : List Trace) (x : Trace) (p : ℕ) (trace : Trace) → slice_get (traces ++ x ∷ []) p ≡ Some trace
    → (slice_get traces p ≡ Some trace) ⊎ ((p ≡ length traces) × (x ≡ trace))
trace_more [] x zero trace at = inr (refl, cc)
trace_more [] x (suc p) trace at = absurd (cc)
trace_more (y ∷ traces) x zero trace at = inl at
trace_more (y ∷ traces) x (suc p) trace at = go (trace_more traces x p trace at)
  where
    go : (slice_get traces p ≡ Some trace) ⊎ ((p ≡ length traces) × (x ≡ trace))
        → (slice_get traces p ≡ Some trace) ⊎ ((suc p ≡ suc (length traces)) × (x ≡ trace))
    go (inl old) = inl old
    go (inr new) = inr (ap suc new.0, new.1)

pub whole_more : (names : List ProcessNames) (r : Recorded) (named numbers : List (List ℕ)) (k : ℕ)
    (traces : List Trace) (x : Trace) → AreWhole names r named numbers k traces → x.process ≡ k
    → IsWhole names r (get_or named k []) numbers k x.events
    → AreWhole names r named numbers (k + 1) (traces ++ x ∷ [])
whole_more names r named numbers k traces x are at whole = record {
  many = one_longer traces x ∙ ap (λ (n : ℕ). n + 1) are.many;
  process = λ p trace is. process p trace (trace_more traces x p trace is);
  whole = λ p trace is. each p trace (trace_more traces x p trace is);
}
  where
    process : (p : ℕ) (trace : Trace) → (slice_get traces p ≡ Some trace) ⊎ ((p ≡ length traces) × (x ≡ trace))
        → trace.process ≡ p
    process p trace (inl old) = are.process p trace old
    process p trace (inr new) =
        sym (ap (λ (t : Trace). t.process) new.1) ∙ (at ∙ (sym are.many ∙ sym new.0))

    each : (p : ℕ) (trace : Trace) → (slice_get traces p ≡ Some trace) ⊎ ((p ≡ length traces) × (x ≡ trace))
        → IsWhole names r (get_or named p []) numbers p trace.events
    each p trace (inl old) = are.whole p trace old
    each p trace (inr new) =
        subst (λ (t : Trace). IsWhole names r (get_or named p []) numbers p t.events) new.1
        (subst (λ (q : ℕ). IsWhole names r (get_or named q []) numbers q x.events) (sym are.many ∙ sym new.0) whole)

-- what holds of what is found gives what follows from it
pub found_weaker : {A E : Type 0} (P Q : A → Type 0) (found : Result (Option A) E) → ((x : A) → P x → Q x)
    → IfOk found (λ f. IfSome f P) → IfOk found (λ f. IfSome f Q)
found_weaker P Q (Ok None) weaker is = is
found_weaker P Q (Ok (Some x)) weaker is = weaker x is
found_weaker P Q (Err e) weaker is = is
