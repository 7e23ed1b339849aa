-- Lists of runs by their keys, and ascending lists of numbers.
use Rattle.std.proofs.Common.{◌≡◌, ℕ, zero, suc, ◌+◌, ◌-◌, ◌^◌, ◌<◌, ◌≤◌, List, [], ◌∷◌, ◌++◌, length, length-append, get_or, map, take, Contains, refl, sym, ap, ◌∙◌, subst, inl, inr, ◌⊎◌, arith}
use Rattle.std.specs.Prelude.{Some, slice_get}
use Rattle.std.proofs.lemmas.Bool.{cases_lt}
use Rattle.std.proofs.lemmas.List.{get_or_append_left, get_or-append_right, take_more, length-map}
use Rattle.std.proofs.lemmas.List.Elements.{Contains-push_cases, Contains-get_or}
use Rattle.walk_keys.specs.Keys.{Ascending, count_base, digits, key_of}
use Rattle.walk_keys.proofs.Keys.{key-digits, lex-digits}
use Rattle.def_model.specs.Events.{Linked}
use Rattle.walk_runs.specs.WholeLevels.{Run, HasRun, IsBelowRun}
use Rattle.walk_runs.specs.KeptRuns.{run_view}
use Rattle.walk_runs.specs.Levels.{runs_view, keys_of}
use Rattle.walk_runs.specs.Kept.{KeyedRun}

pub contains_at : {A : Type 0} (xs : List A) (x d : A) → Contains xs x → (k : ℕ) × (k < length xs) × (get_or xs k d ≡ x)
contains_at [] x d (k, lt, at) = absurd (omega arith)
contains_at (y ∷ xs) x d (zero, lt, at) = (0, lt, at)
contains_at {A} (y ∷ xs) x d (suc k, lt, at) =
    let rest : (j : ℕ) × (j < length xs) × (get_or {A = A} xs j d ≡ x) = contains_at xs x d (k, omega arith, at) in
    (suc rest.0, omega (arith, rest.1), rest.2)

pub map_push : {A B : Type 0} (f : A → B) (xs : List A) (x : A) → map f (xs ++ x ∷ []) ≡ map f xs ++ f x ∷ []
map_push f [] x = refl
map_push {A} {B} f (y ∷ xs) x = ap (λ (ys : List B). f y ∷ ys) (map_push f xs x)

pub in_map : {A B : Type 0} (f : A → B) (xs : List A) (x : A) → Contains xs x → Contains (map f xs) (f x)
in_map f [] x (k, lt, at) = absurd (omega arith)
in_map f (y ∷ xs) x (zero, lt, at) = (0, omega arith, ap f at)
in_map f (y ∷ xs) x (suc k, lt, at) =
    let w : Contains (map f xs) (f x) = in_map f xs x (k, omega arith, at) in
    (suc w.0, omega (arith, w.1), w.2)

pub from_map : {A B : Type 0} (f : A → B) (xs : List A) (y : B) → Contains (map f xs) y
    → (x : A) × Contains xs x × (f x ≡ y)
from_map f [] y (k, lt, at) = absurd (omega arith)
from_map f (x ∷ xs) y (zero, lt, at) = (x, (0, omega arith, refl), at)
from_map {A} {B} f (x ∷ xs) y (suc k, lt, at) =
    let w : (z : A) × Contains xs z × (f z ≡ y) = from_map f xs y (k, omega arith, at) in
    (w.0, (suc w.1.0, omega (arith, w.1.1), w.1.2), w.2)

-- one more element of a prefix
pub prefix_more : {A : Type 0} (xs : List A) (i : ℕ) (x d : A) → i < length xs → Contains (take (i + 1) xs) x
    → Contains (take i xs) x ⊎ (get_or xs i d ≡ x)
prefix_more {A} xs i x d lt has =
    Contains-push_cases (take i xs) (get_or xs i d) x (subst (λ (ys : List A). Contains ys x) (take_more xs i d lt) has)

pub ascending_push : (xs : List ℕ) (y : ℕ) → Ascending xs → ((x : ℕ) → Contains xs x → x < y) → Ascending (xs ++ y ∷ [])
ascending_push xs y asc below i j lt in_ = go (cases_lt j (length xs))
  where
    size : length (xs ++ y ∷ []) ≡ length xs + 1
    size = length-append xs (y ∷ [])

    go : (j < length xs) ⊎ (length xs ≤ j) → get_or (xs ++ y ∷ []) i 0 < get_or (xs ++ y ∷ []) j 0
    go (inl low) =
        rw (get_or_append_left xs (y ∷ []) 0 i (omega arith), get_or_append_left xs (y ∷ []) 0 j low) (asc i j lt low)
    go (inr high) =
        let e : j ≡ length xs = omega (arith, size) in
        let none : length xs - length xs ≡ 0 = omega arith in
        let last : get_or (xs ++ y ∷ []) j 0 ≡ y =
        ap (λ (k : ℕ). get_or (xs ++ y ∷ []) k 0) e
        ∙ (get_or-append_right xs (y ∷ []) (length xs) (length xs) 0 refl (omega arith)
        ∙ ap (λ (k : ℕ). get_or {A = ℕ} (y ∷ []) k 0) none) in
        rw (last, get_or_append_left xs (y ∷ []) 0 i (omega arith))
        (below (get_or xs i 0) (Contains-get_or xs i 0 (omega arith)))

-- some run of the list has the key
abbrev pub HasKey : List KeyedRun → ℕ → Type 0
HasKey runs key = (run : KeyedRun) × Contains runs run × (run.key ≡ key)

pub same_key : (n a b : ℕ) → a < count_base ^ n → b < count_base ^ n → digits n a ≡ digits n b → a ≡ b
same_key n a b la lb e = sym (key-digits n a la) ∙ (ap key_of e ∙ key-digits n b lb)

pub run_of_key : (n : ℕ) (runs : List KeyedRun) (key : ℕ) → HasKey runs key → HasRun (runs_view n runs) (digits n key)
run_of_key n runs key (run, has, e) = (run_view n run, in_map (run_view n) runs run has, ap (digits n) e)

pub key_of_run : (n : ℕ) (runs : List KeyedRun) (key : ℕ)
    → ((run : KeyedRun) → Contains runs run → run.key < count_base ^ n)
    → key < count_base ^ n → HasRun (runs_view n runs) (digits n key) → HasKey runs key
key_of_run n runs key below lt (view, has, e) =
    let w : (run : KeyedRun) × Contains runs run × (run_view n run ≡ view) = from_map (run_view n) runs view has in
    (w.0, w.1, same_key n w.0.key key (below w.0 w.1) lt (ap (λ (r : Run). r.prefix) w.2 ∙ e))

-- ascending keys are runs in order
pub runs_in_order : (n : ℕ) (runs : List KeyedRun) → ((run : KeyedRun) → Contains runs run → run.key < count_base ^ n)
    → Ascending (keys_of runs) → Linked IsBelowRun (runs_view n runs)
runs_in_order n [] below asc = tt
runs_in_order n (x ∷ []) below asc = tt
runs_in_order n (x ∷ y ∷ rest) below asc = (
  lex-digits n x.key y.key (below y (1, omega arith, refl)) (asc 0 1 (omega arith) (omega arith)),
  runs_in_order n (y ∷ rest) (λ run has. below run (suc has.0, omega (arith, has.1), has.2))
      (λ i j lt in_. asc (suc i) (suc j) (omega arith) (omega arith)),
)

-- the key at a place
pub key_at : (runs : List KeyedRun) (i : ℕ) (run : KeyedRun) → i < length runs → run ≡ get_or runs i run
    → get_or (keys_of runs) i 0 ≡ run.key
key_at [] i run lt at = absurd (omega arith)
key_at (x ∷ runs) zero run lt at = ap (λ (r : KeyedRun). r.key) (sym at)
key_at (x ∷ runs) (suc i) run lt at = key_at runs i run (omega arith) at

pub length-keys : (runs : List KeyedRun) → length (keys_of runs) ≡ length runs
length-keys runs = length-map runs (λ (run : KeyedRun). run.key)

-- the run at a place as it is read
pub run_read : (n : ℕ) (runs : List KeyedRun) (i : ℕ) (run : KeyedRun) → i < length runs → run ≡ get_or runs i run
    → slice_get (runs_view n runs) i ≡ Some (run_view n run)
run_read n [] i run lt is = absurd (omega arith)
run_read n (x ∷ runs) zero run lt is = ap (λ (r : KeyedRun). Some (run_view n r)) (sym is)
run_read n (x ∷ runs) (suc i) run lt is = run_read n runs i run (omega arith) is

pub get_or_default : {A : Type 0} (xs : List A) (i : ℕ) (d e : A) → i < length xs → get_or xs i d ≡ get_or xs i e
get_or_default [] i d e lt = absurd (omega arith)
get_or_default (x ∷ xs) zero d e lt = refl
get_or_default (x ∷ xs) (suc i) d e lt = get_or_default xs i d e (omega arith)
