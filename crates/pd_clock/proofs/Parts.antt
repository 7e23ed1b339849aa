-- The parts of a computation, read by the number of a process.
use Rattle.std.proofs.Common.{◌≡◌, ℕ, zero, suc, ◌<◌, ◌≤◌, List, [], ◌∷◌, ◌++◌, length, get_or, map, refl, ap, arith, ℤ, Some}
use Rattle.std.specs.Prelude.{slice_get, Vec}
use Rattle.std.specs.Global.{Global}
use Rattle.std.proofs.lemmas.Option.{slice_get_read, slice_get_past}
use Rattle.def_model.specs.Events.{events_of}
use Rattle.def_model.proofs.ListPrefixes.{get_push_before, get_push_last}
use Rattle.read_traces.specs.declared.event.Trace.{Trace}
use Rattle.read_traces.specs.Views.{computation_view}
use Rattle.pd_clock.specs.States.{history_at, history_in, values_at, values_in}

pub got : {A : Type 0} (xs : List A) (p : ℕ) (x : A) → p < length xs → x ≡ get_or xs p x → slice_get xs p ≡ Some x
got xs p x lt is = slice_get_read xs (length xs) p x refl lt is

pub values_read : (rows : List (Vec ℤ Global)) (p : ℕ) (row : Vec ℤ Global) → p < length rows → row ≡ get_or rows p row
    → values_at rows p ≡ row.items
values_read rows p row lt is = ap values_in (got rows p row lt is)

pub values_before : (rows : List (Vec ℤ Global)) (row : Vec ℤ Global) (k : ℕ) → k < length rows
    → values_at (rows ++ row ∷ []) k ≡ values_at rows k
values_before rows row k lt = ap values_in (get_push_before rows row k lt)

pub values_last : (rows : List (Vec ℤ Global)) (row : Vec ℤ Global) (k : ℕ) → k ≡ length rows
    → values_at (rows ++ row ∷ []) k ≡ row.items
values_last rows row k e = ap values_in (get_push_last rows row k e)

pub values_past : (rows : List (Vec ℤ Global)) (k : ℕ) → length rows ≤ k → values_at rows k ≡ []
values_past rows k le = ap values_in (slice_get_past rows k le)

pub history_read : (rows : List (List ℤ)) (p : ℕ) (row : List ℤ) → p < length rows → row ≡ get_or rows p row
    → history_at rows p ≡ row
history_read rows p row lt is = ap history_in (got rows p row lt is)

pub history_before : (rows : List (List ℤ)) (row : List ℤ) (k : ℕ) → k < length rows
    → history_at (rows ++ row ∷ []) k ≡ history_at rows k
history_before rows row k lt = ap history_in (get_push_before rows row k lt)

pub history_last : (rows : List (List ℤ)) (row : List ℤ) (k : ℕ) → k ≡ length rows
    → history_at (rows ++ row ∷ []) k ≡ row
history_last rows row k e = ap history_in (get_push_last rows row k e)

pub history_past : (rows : List (List ℤ)) (k : ℕ) → length rows ≤ k → history_at rows k ≡ []
history_past rows k le = ap history_in (slice_get_past rows k le)

get_map : {A B : Type 0} (f : A → B) (xs : List A) (p : ℕ) (x : A) (d : B) → slice_get xs p ≡ Some x
    → get_or (map f xs) p d ≡ f x
get_map f [] p x d e = absurd (cc)
get_map f (y ∷ xs) zero x d e = ap f (let s : y ≡ x = cc in s)
get_map f (y ∷ xs) (suc p) x d e = get_map f xs p x d e

get_map_past : {A B : Type 0} (f : A → B) (xs : List A) (p : ℕ) (d : B) → length xs ≤ p → get_or (map f xs) p d ≡ d
get_map_past f [] p d le = refl
get_map_past f (y ∷ xs) zero d le = absurd (omega arith)
get_map_past f (y ∷ xs) (suc p) d le = get_map_past f xs p d (omega arith)

pub events_read : (traces : List Trace) (p : ℕ) (process : Trace) → p < length traces
    → process ≡ get_or traces p process → events_of (computation_view traces) p ≡ process.events
events_read traces p process lt is =
    get_map (λ (other : Trace). other.events) traces p process [] (got traces p process lt is)

pub events_past : (traces : List Trace) (p : ℕ) → length traces ≤ p → events_of (computation_view traces) p ≡ []
events_past traces p le =
    get_map_past (λ (other : Trace). other.events) traces p [] le

-- the initial values as they are recorded
pub initial_read : (rows : List (Vec ℤ Global)) (p : ℕ) → get_or (map (λ (row : Vec ℤ Global). row.items) rows) p []
    ≡ values_at rows p
initial_read [] p = refl
initial_read (row ∷ rows) zero = refl
initial_read (row ∷ rows) (suc p) = initial_read rows p
