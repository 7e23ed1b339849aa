-- What is kept of one process after another, and put together.
use Rattle.std.proofs.Common.{◌≡◌, ◌+◌, ◌<◌, ◌≤◌, ◌⊎◌, inl, inr, ℕ, ℤ, List, [], ◌∷◌, ◌++◌, All, get_or, length, map, sym, ap, ◌∙◌, subst, arith}
use Rattle.std.specs.Prelude.{Vec, flat_map, slice_index_or}
use Rattle.std.specs.Global.{Global}
use Rattle.std.proofs.lemmas.Bool.{cases_lt}
use Rattle.std.proofs.lemmas.List.{get_or-map, get_or_append_left, get_or_push, length-map, map-append}
use Rattle.def_format.specs.Limits.{event_limit}
use Rattle.def_model.specs.Events.{Event, events_of}
use Rattle.def_model.specs.Predicates.{Recorded}
use Rattle.def_orders.specs.Orders.{AreKept, values_after}
use Rattle.judge_orders.specs.KeptRuns.{AreWithinLimit, HaveKept, HaveRows, values_view}
use Rattle.judge_orders.specs.Lists.{lists_view}
use Rattle.judge_orders.specs.ProcessEvents.{AreKeptOfProcess, IsProcess}
use Rattle.pd_clock.specs.Computations.{initial_view, recorded_view}
use Rattle.pd_clock.specs.Histories.{AreVars}
use Rattle.read_traces.specs.Views.{computation_view}
use Rattle.read_traces.specs.declared.event.Trace.{Trace}
use Rattle.judge_orders.proofs.Places.{list_at}

-- ---- two lists side by side

at_before : {A B : Type 0} (f : A → B) (xs : List A) (y : A) (d : B) (k : ℕ) → k < length xs
    → get_or (map f (xs ++ y ∷ [])) k d ≡ get_or (map f xs) k d
at_before {A} {B} f xs y d k lt =
    ap (λ (zs : List B). get_or zs k d) (map-append f xs (y ∷ []))
    ∙ get_or_append_left (map f xs) (f y ∷ []) d k (omega (arith, lt, length-map xs f))

at_last : {A B : Type 0} (f : A → B) (xs : List A) (y : A) (d : B) (n : ℕ) → length xs ≡ n
    → get_or (map f (xs ++ y ∷ [])) n d ≡ f y
at_last {A} {B} f xs y d n many =
    ap (λ (zs : List B). get_or zs n d) (map-append f xs (y ∷ []))
    ∙ get_or_push (map f xs) (f y) d n (length-map xs f ∙ many)

-- what holds at each place of two lists, as they are seen, holds at that of one element more of each
pair_push : {A B C D : Type 0} (P : ℕ → B → D → Type 0) (f : A → B) (g : C → D) (xs : List A) (ys : List C) (x : A)
    (y : C) (n : ℕ) (d : B) (e : D) → length xs ≡ n → length ys ≡ n
    → ((k : ℕ) → k < n → P k (get_or (map f xs) k d) (get_or (map g ys) k e)) → P n (f x) (g y) → (k : ℕ) → k < n + 1
    → P k (get_or (map f (xs ++ x ∷ [])) k d) (get_or (map g (ys ++ y ∷ [])) k e)
pair_push {A} {B} {C} {D} P f g xs ys x y n d e many many' known here k lt = go (cases_lt k n)
  where
    go : (k < n) ⊎ (n ≤ k) → P k (get_or (map f (xs ++ x ∷ [])) k d) (get_or (map g (ys ++ y ∷ [])) k e)
    go (inl less) =
        subst (λ (at : B × D). P k at.0 at.1)
        (λ i. (
          sym (at_before f xs x d k (omega (arith, less, many))) i,
          sym (at_before g ys y e k (omega (arith, less, many'))) i,
        )) (known k less)
    go (inr ge) =
        let same : n ≡ k = omega (arith, lt, ge) in
        subst (λ (j : ℕ). P j (get_or (map f (xs ++ x ∷ [])) j d) (get_or (map g (ys ++ y ∷ [])) j e)) same
        (subst (λ (at : B × D). P n at.0 at.1)
        (λ i. (sym (at_last f xs x d n many) i, sym (at_last g ys y e n many') i)) here)

-- ---- a process of the traces

pub trace_at : (traces : List Trace) (p : ℕ) (d : Trace) → p < length traces
    → events_of (computation_view traces) p ≡ (get_or traces p d).events
trace_at traces p d lt = get_or-map (λ (process : Trace). process.events) traces p d [] lt

row_at : (rows : List (Vec ℤ Global)) (p : ℕ) (d : Vec ℤ Global) → p < length rows
    → slice_index_or (initial_view rows) p [] ≡ (get_or rows p d).items
row_at rows p d lt = get_or-map (λ (row : Vec ℤ Global). row.items) rows p d [] lt

-- there is a row for the process
pub row_there : (rows : List (Vec ℤ Global)) (traces : List Trace) (p : ℕ)
    → HaveRows (initial_view rows) (computation_view traces) → p < length traces → p < length rows
row_there rows traces p have lt =
    omega (
      arith,
      have.one_each,
      lt,
      length-map rows (λ (row : Vec ℤ Global). row.items),
      length-map traces (λ (process : Trace). process.events),
    )

pub process_at : (rows : List (Vec ℤ Global)) (traces : List Trace) (p : ℕ) (d : Vec ℤ Global) (e : Trace)
    (start : List ℤ) → HaveRows (initial_view rows) (computation_view traces) → p < length traces
    → start ≡ (get_or rows p d).items
    → IsProcess (recorded_view (initial_view rows) traces) p start (get_or traces p e).events
process_at rows traces p d e start have lt is = record {
  starts = row_at rows p d (row_there rows traces p have lt) ∙ sym is;
  happen = trace_at traces p e lt;
}

-- its events set variables that are there
pub vars_at : (rows : List (Vec ℤ Global)) (traces : List Trace) (p : ℕ) (d : Vec ℤ Global) (e : Trace)
    (start : List ℤ) → HaveRows (initial_view rows) (computation_view traces) → p < length traces
    → start ≡ (get_or rows p d).items
    → All (λ (event : Event). AreVars (length start) event.sets) (get_or traces p e).events
vars_at rows traces p d e start have lt is =
    subst (λ (events : List Event). All (λ (event : Event). AreVars (length start) event.sets) events)
    (trace_at traces p e lt)
    (subst (λ (row : List ℤ). All (λ (event : Event). AreVars (length row) event.sets)
    (events_of (computation_view traces) p)) (row_at rows p d (row_there rows traces p have lt) ∙ sym is)
    (have.vars p))

-- ---- one process after another

pub have_none : (r : Recorded) (named : List (List ℕ)) (numbers : List (Vec ℕ Global)) (values : List (Vec ℤ Global))
    → HaveKept r named (lists_view numbers) (values_view values) 0
have_none r named numbers values = record {
  kept = λ p lt. absurd (omega (arith, lt));
  values_are = λ p lt. absurd (omega (arith, lt));
}

pub have_more : (r : Recorded) (named : List (List ℕ)) (numbers : List (Vec ℕ Global)) (values : List (Vec ℤ Global))
    (of_process : Vec ℕ Global) (seen : Vec ℤ Global) (start : List ℤ) (events : List Event) (vars : List ℕ) (p : ℕ)
    → length numbers ≡ p → length values ≡ p → HaveKept r named (lists_view numbers) (values_view values) p
    → IsProcess r p start events → get_or named p [] ≡ vars
    → AreKeptOfProcess start events vars of_process.items seen.items
    → HaveKept r named (lists_view (numbers ++ of_process ∷ [])) (values_view (values ++ seen ∷ [])) (p + 1)
have_more r named numbers values of_process seen start events vars p many many' known process is here = record {
  kept = λ k lt.
      pair_push (λ (q : ℕ) (ns : List ℕ) (vs : List ℤ). AreKept r q (get_or named q []) ns)
      (λ (list : Vec ℕ Global). list.items) (λ (list : Vec ℤ Global). list.items) numbers values of_process seen p []
      [] many many' (λ q less. known.kept q less)
      (subst (λ (vs : List ℕ). AreKept r p vs of_process.items) (sym is) (here.kept r p process)) k lt;
  values_are = λ k lt.
      pair_push (λ (q : ℕ) (ns : List ℕ) (vs : List ℤ). vs ≡ flat_map (values_after r q (get_or named q [])) (0 ∷ ns))
      (λ (list : Vec ℕ Global). list.items) (λ (list : Vec ℤ Global). list.items) numbers values of_process seen p []
      [] many many' (λ q less. known.values_are q less)
      (subst (λ (vs : List ℕ). seen.items ≡ flat_map (values_after r p vs) (0 ∷ of_process.items)) (sym is)
      (here.values_are r p process)) k lt;
}

-- ---- the limit

pub limit_more : (numbers : List (Vec ℕ Global)) (p : ℕ) (d : Vec ℕ Global) → p < length numbers
    → AreWithinLimit (lists_view numbers) p → length (get_or numbers p d).items ≤ event_limit
    → AreWithinLimit (lists_view numbers) (p + 1)
limit_more numbers p d lt known here k less = go (cases_lt k p)
  where
    go : (k < p) ⊎ (p ≤ k) → length (get_or (lists_view numbers) k []) ≤ event_limit
    go (inl before) = known k before
    go (inr ge) =
        let same : p ≡ k = omega (arith, less, ge) in
        subst (λ (j : ℕ). length (get_or (lists_view numbers) j []) ≤ event_limit) same
        (subst (λ (list : List ℕ). length list ≤ event_limit) (sym (list_at numbers p d lt)) here)

pub limit_passed : (numbers : List (Vec ℕ Global)) (p : ℕ) (d : Vec ℕ Global) → p < length numbers
    → event_limit < length (get_or numbers p d).items → ¬ AreWithinLimit (lists_view numbers) (length numbers)
limit_passed numbers p d lt long within =
    let short : length (get_or numbers p d).items ≤ event_limit =
    subst (λ (list : List ℕ). length list ≤ event_limit) (list_at numbers p d lt) (within p lt) in
    absurd (omega (arith, long, short))
