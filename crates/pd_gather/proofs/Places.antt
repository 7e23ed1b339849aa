-- The faults of streams, and the traces of processes, by their places.
use Rattle.std.proofs.Common.{◌≡◌, ℕ, zero, suc, ◌+◌, ◌<◌, ◌≤◌, Bool, true, false, cond, eqb, List, [], ◌∷◌, ◌++◌, length, get_or, take, drop, refl, sym, ◌∙◌, ap, subst, append_assoc, arith, add-one, drop-cons}
use Rattle.std.specs.Prelude.{IsOk, IsSome, is_some, nat_lt, Option, Some, None, option_map, Result, Ok, Err, slice_get}
use Rattle.std.specs.List.{list_any, position, position_or_len}
use Rattle.std.specs.Result.{result_ok}
use Rattle.std.proofs.lemmas.Bool.Decides.{nat_tests}
use Rattle.std.proofs.lemmas.List.Recursion.{found_at, found_nowhere}
use Rattle.std.proofs.lemmas.List.Quantifiers.{position-Some}
use Rattle.std.proofs.lemmas.List.Sums.{fails_before_first}
use Rattle.std.proofs.Math.Seq.{take-suc}
use Rattle.def_format.specs.Names.{ProcessNames}
use Rattle.def_format.specs.Readings as readings
use Rattle.def_format.specs.Sessions.{SessionFault, Absent, StreamResult, has_joined, stream_fault, fault_or, first_stream_fault, trace_of, traces_from}
use Rattle.read_traces.specs.Views.{trace_view}
use Rattle.pd_events.specs.Views.{result_view}
use Rattle.read_traces.specs.declared.event.Trace.{Trace}
use Rattle.pd_events.specs.declared.fault.StreamFault.{StreamFault}
use Rattle.pd_gather.specs.Views.{is_trace_of, results_view, traces_view}

abbrev pub Given : Type 0
Given = Result Trace StreamFault

-- ---- the first fault

pub any_joined : (process : ℕ) (xs : List Given)
    → list_any (is_trace_of process) xs ≡ has_joined process (results_view xs)
any_joined process [] = refl
any_joined process (Err fault ∷ later) = any_joined process later
any_joined process (Ok trace ∷ later) = go (any_joined process later) (eqb trace.process process) refl
  where
    go : list_any (is_trace_of process) later ≡ has_joined process (results_view later) → (b : Bool)
        → eqb trace.process process ≡ b → list_any (is_trace_of process) (Ok trace ∷ later)
        ≡ has_joined process (results_view (Ok trace ∷ later))
    go ih true e = rw e refl
    go ih false e = rw e ih

view_push : (xs : List Given) (x : Given) → results_view (xs ++ x ∷ []) ≡ results_view xs ++ result_view x ∷ []
view_push [] x = refl
view_push (y ∷ ys) x = ap (λ (rest : List StreamResult). result_view y ∷ rest) (view_push ys x)

-- what is left to look at, from this place on
abbrev pub faults_from : List Given → ℕ → Option SessionFault
faults_from xs i = first_stream_fault (results_view (take i xs)) (results_view (drop i xs))

pub faults_at : (xs : List Given) (i : ℕ) (x : Given) → i < length xs → x ≡ get_or xs i x
    → faults_from xs i ≡ fault_or (stream_fault (results_view (take i xs)) (result_view x)) (faults_from xs (i + 1))
faults_at xs i x within is =
    let rest : drop i xs ≡ x ∷ drop (i + 1) xs =
    rw add-one (drop-cons xs i x within ∙ ap (λ (y : Given). y ∷ drop (suc i) xs) (sym is)) in
    let prefix : take (i + 1) xs ≡ take i xs ++ x ∷ [] =
    rw add-one (take-suc xs i x within ∙ ap (λ (y : Given). take i xs ++ y ∷ []) (sym is)) in
    ap (λ (ys : List Given). first_stream_fault (results_view (take i xs)) (results_view ys)) rest
    ∙ ap (λ (ys : List StreamResult). fault_or (stream_fault (results_view (take i xs)) (result_view x))
    (first_stream_fault ys (results_view (drop (i + 1) xs)))) (sym (view_push (take i xs) x)
    ∙ ap results_view (sym prefix))

-- ---- the trace of a process

trace_step : (process : ℕ) (x : Given) (xs : List Given) → trace_of process (results_view (x ∷ xs))
    ≡ cond (is_trace_of process x) (option_map trace_view (result_ok x)) (trace_of process (results_view xs))
trace_step process (Ok trace) xs = refl
trace_step process (Err fault) xs = refl

pub trace_at : (process : ℕ) (xs : List Given) (i : ℕ) (d : Given) → position (is_trace_of process) xs ≡ Some i
    → trace_of process (results_view xs) ≡ option_map trace_view (result_ok (get_or xs i d))
trace_at process xs i d e =
    let p = position-Some (is_trace_of process) xs i d e in
    found_at (λ (ys : List Given). trace_of process (results_view ys)) (is_trace_of process) (λ (y : Given).
    option_map trace_view (result_ok y)) None refl (trace_step process) xs i d p.0 p.2 p.1

no_place : (n len : ℕ) → cond (nat_lt n len) (Some n) None ≡ None → len ≤ n
no_place n len e = grind (arith, nat_tests)

nowhere : (process : ℕ) (xs : List Given) (d : Given) → position (is_trace_of process) xs ≡ None
    → trace_of process (results_view xs) ≡ None
nowhere process xs d e =
    let past : length xs ≤ position_or_len (is_trace_of process) xs =
    no_place (position_or_len (is_trace_of process) xs) (length xs) e in
    found_nowhere (λ (ys : List Given). trace_of process (results_view ys)) (is_trace_of process) (λ (y : Given).
    option_map trace_view (result_ok y)) None refl (trace_step process) xs d (λ k lt.
    fails_before_first (is_trace_of process) xs k d (omega arith))

pub trace_nowhere : (process : ℕ) (xs : List Given) → position (is_trace_of process) xs ≡ None
    → trace_of process (results_view xs) ≡ None
trace_nowhere process [] e = refl
trace_nowhere process (x ∷ xs) e = nowhere process (x ∷ xs) x e

-- a process is joined if it has a trace
pub any_found : (process : ℕ) (xs : List Given) → list_any (is_trace_of process) xs
    ≡ is_some (trace_of process (results_view xs))
any_found process [] = refl
any_found process (Err fault ∷ later) = any_found process later
any_found process (Ok trace ∷ later) = go (any_found process later) (eqb trace.process process) refl
  where
    go : list_any (is_trace_of process) later ≡ is_some (trace_of process (results_view later)) → (b : Bool)
        → eqb trace.process process ≡ b → list_any (is_trace_of process) (Ok trace ∷ later)
        ≡ is_some (trace_of process (results_view (Ok trace ∷ later)))
    go ih true e = rw e refl
    go ih false e = rw e ih

-- taking another process's trace out changes nothing
not_both : (q process n : ℕ) → (q ≡ process → ⊥) → eqb n process ≡ true → eqb n q ≡ false
not_both q process n differ e = go (eqb n q) refl
  where
    go : (b : Bool) → eqb n q ≡ b → eqb n q ≡ false
    go true f = absurd (differ (grind arith))
    go false f = f

not_of : (q process : ℕ) (x : Given) → (q ≡ process → ⊥) → is_trace_of process x ≡ true → is_trace_of q x ≡ false
not_of q process (Ok trace) differ e = not_both q process trace.process differ e
not_of q process (Err fault) differ e = refl

pub trace_stays : (q process : ℕ) (xs : List Given) (i : ℕ) (d : Given) → (q ≡ process → ⊥) → i < length xs
    → is_trace_of process (get_or xs i d) ≡ true → trace_of q (results_view (take i xs ++ drop (suc i) xs))
    ≡ trace_of q (results_view xs)
trace_stays q process [] i d differ within e = absurd (omega arith)
trace_stays q process (x ∷ xs) zero d differ within e =
    sym (trace_step q x xs ∙ ap (λ (b : Bool).
    cond b (option_map trace_view (result_ok x)) (trace_of q (results_view xs))) (not_of q process x differ e))
trace_stays q process (x ∷ xs) (suc i) d differ within e =
    trace_step q x (take i xs ++ drop (suc i) xs)
    ∙ (ap (λ (o : Option readings.Trace). cond (is_trace_of q x) (option_map trace_view (result_ok x)) o)
    (trace_stays q process xs i d differ (omega arith) e)
    ∙ sym (trace_step q x xs))

-- the trace found is of the process
pub trace_is_of : (process : ℕ) (outcomes : List StreamResult) (trace : readings.Trace)
    → trace_of process outcomes ≡ Some trace → trace.process ≡ process
trace_is_of process [] trace e = cc
trace_is_of process (Err fault ∷ later) trace e = trace_is_of process later trace e
trace_is_of process (Ok first ∷ later) trace e = go (trace_is_of process later trace) (eqb first.process process) refl e
  where
    go : (trace_of process later ≡ Some trace → trace.process ≡ process) → (b : Bool) → eqb first.process process ≡ b
        → trace_of process (Ok first ∷ later) ≡ Some trace → trace.process ≡ process
    go ih true t f =
        let same : first ≡ trace = (let g = rw t at f in cc) in
        ap (λ (r : readings.Trace). r.process) (sym same) ∙ (grind arith)
    go ih false t f = ih (rw t at f)

-- ---- the traces in order

abbrev pub following : List readings.Trace → Result (List readings.Trace) SessionFault
    → Result (List readings.Trace) SessionFault
following prefix (Ok later) = Ok (prefix ++ later)
following prefix (Err fault) = Err fault

with_one : (prefix : List readings.Trace) (process : ℕ) (names : ProcessNames) (others : List ProcessNames)
    (outcomes : List StreamResult) (trace : readings.Trace) → trace_of process outcomes ≡ Some trace
    → following prefix (traces_from process (names ∷ others) outcomes)
    ≡ following (prefix ++ trace ∷ []) (traces_from (suc process) others outcomes)
with_one prefix process names others outcomes trace e = go (traces_from (suc process) others outcomes) refl
  where
    go : (r : Result (List readings.Trace) SessionFault) → traces_from (suc process) others outcomes ≡ r
        → following prefix (traces_from process (names ∷ others) outcomes)
        ≡ following (prefix ++ trace ∷ []) (traces_from (suc process) others outcomes)
    go (Ok later) f =
        rw (e, f) (ap (λ (xs : List readings.Trace). Ok xs) (sym (append_assoc prefix (trace ∷ []) later)))
    go (Err fault) f = rw (e, f) refl

pub one_more : (prefix : List readings.Trace) (process : ℕ) (names : ProcessNames) (others : List ProcessNames)
    (outcomes : List StreamResult) (trace : readings.Trace) → trace_of process outcomes ≡ Some trace
    → following prefix (traces_from process (names ∷ others) outcomes)
    ≡ following (prefix ++ trace ∷ []) (traces_from (process + 1) others outcomes)
one_more prefix process names others outcomes trace e =
    with_one prefix process names others outcomes trace e
    ∙ ap (λ (p : ℕ). following (prefix ++ trace ∷ []) (traces_from p others outcomes)) (sym (add-one process))

pub none_more : (prefix : List readings.Trace) (process : ℕ) (names : ProcessNames) (others : List ProcessNames)
    (outcomes : List StreamResult) → trace_of process outcomes ≡ None
    → following prefix (traces_from process (names ∷ others) outcomes) ≡ Err (Absent process)
none_more prefix process names others outcomes e = rw e refl

pub none_found : {A : Type 0} (found : Option A) → is_some found ≡ false → found ≡ None
none_found None e = refl
none_found (Some x) e = cc

pub some_found : {A : Type 0} (found : Option A) → is_some found ≡ true → (x : A) × (found ≡ Some x)
some_found None e = cc
some_found (Some x) e = (x, refl)

-- if all traces are there, the next process has one
pub complete_has : (prefix : List readings.Trace) (process : ℕ) (names : ProcessNames) (others : List ProcessNames)
    (outcomes : List StreamResult) → IsOk (following prefix (traces_from process (names ∷ others) outcomes))
    → (trace : readings.Trace) × (trace_of process outcomes ≡ Some trace)
complete_has prefix process names others outcomes complete = go (trace_of process outcomes) refl
  where
    go : (found : Option readings.Trace) → trace_of process outcomes ≡ found
        → (trace : readings.Trace) × (trace_of process outcomes ≡ Some trace)
    go (Some trace) e = (trace, e)
    go None e =
        let no = subst (λ (r : Result (List readings.Trace) SessionFault). IsOk r)
        (none_more prefix process names others outcomes e) complete in
        cc

pub is_mapped : {A B : Type 0} (f : A → B) (found : Option A) (y : B) → option_map f found ≡ Some y → IsSome found
is_mapped f None y e = cc
is_mapped f (Some x) y e = refl

pub dropped : {A : Type 0} (xs : List A) (i : ℕ) → i < length xs → (x : A) × (drop i xs ≡ x ∷ drop (i + 1) xs)
dropped [] i within = absurd (omega arith)
dropped (x ∷ xs) i within = (get_or (x ∷ xs) i x, rw add-one (drop-cons (x ∷ xs) i x within))

pub prefix_push : (traces : List Trace) (trace : Trace) → traces_view (traces ++ trace ∷ []) ≡ traces_view traces
    ++ trace_view trace ∷ []
prefix_push [] trace = refl
prefix_push (t ∷ ts) trace = ap (λ (rest : List readings.Trace). trace_view t ∷ rest) (prefix_push ts trace)

-- what holds at each place, with one element more
pub at_push : {A : Type 0} (P : ℕ → A → Type 0) (xs : List A) (y : A)
    → ((k : ℕ) (x : A) → slice_get xs k ≡ Some x → P k x) → P (length xs) y → (k : ℕ) (x : A)
    → slice_get (xs ++ y ∷ []) k ≡ Some x → P k x
at_push P [] y h own zero x e = let same : y ≡ x = cc in subst (P zero) same own
at_push P [] y h own (suc k) x e = cc
at_push P (z ∷ zs) y h own zero x e = h zero x e
at_push P (z ∷ zs) y h own (suc k) x e =
    at_push (λ (n : ℕ) (a : _). P (suc n) a) zs y (λ n a f. h (suc n) a f) own k x e
