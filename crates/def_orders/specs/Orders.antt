-- What is seen of a run if only some variables are: the events that set one of them to another value, what the
-- variables are worth after each of these, and the order of happened-before among these.
use Rattle.std.specs.Prelude.{⊤, ◌≡◌, ◌≢◌, ℕ, ◌+◌, ◌<◌, List, [], ◌∷◌, All, AllPairs, Contains, ℤ, filter, flat_map, length, map, nat_le, slice_index, slice_index_or}
use Rattle.std.specs.List.{AllZip}
use Rattle.def_model.specs.Events.{IsEvent, Place, event_count, place}
use Rattle.def_model.specs.Order.{IsClock}
use Rattle.def_model.specs.Predicates.{Sign, Term, Number, Variable, Times, Predicate, Always, Never, Compare, Not, And, Or, Recorded}
use Rattle.def_long.specs.Views.{value_after}

-- ---- the variables that are seen

-- A list for each process has the variables of it that are seen. The variable of a term is one of them, if its process
-- is one of these.
abbrev pub TermIsOver : (named : List (List ℕ)) → Term → Type 0
TermIsOver named (Number k) = ⊤
TermIsOver named (Variable p v) = p < length named → Contains (slice_index_or named p []) v
TermIsOver named (Times k p v) = p < length named → Contains (slice_index_or named p []) v

abbrev pub SumIsOver : (named : List (List ℕ)) → List (Sign × Term) → Type 0
SumIsOver named [] = ⊤
SumIsOver named ((sign, term) ∷ rest) = TermIsOver named term × SumIsOver named rest

-- each variable of the predicate is seen
abbrev pub IsOver : (named : List (List ℕ)) → Predicate → Type 0
IsOver named Always = ⊤
IsOver named Never = ⊤
IsOver named (Compare left comparison right) = SumIsOver named left × SumIsOver named right
IsOver named (Not inner) = IsOver named inner
IsOver named (And left right) = IsOver named left × IsOver named right
IsOver named (Or left right) = IsOver named left × IsOver named right

-- ---- the events that are kept

-- what these variables of process p are worth after its first n events
abbrev pub values_after : Recorded → ℕ → List ℕ → ℕ → List ℤ
values_after r p vars n = map (λ v. value_after r n p v) vars

-- These are the numbers of the events of process p that are kept: they ascend, each of these events leaves one of these
-- variables with another value, and each other event leaves them as they were.
pub record AreKept (r : Recorded) (p : ℕ) (vars numbers : List ℕ) : Type 0 where
  pub ascend : AllPairs (λ (m n : ℕ). m < n) numbers
  pub events : All (λ n. IsEvent r.events (place p n)) numbers
  pub changes : (n : ℕ) → Contains numbers (n + 1) → values_after r p vars n ≢ values_after r p vars (n + 1)
  pub others : (n : ℕ) → n < event_count r.events p → (¬ Contains numbers (n + 1))
      → values_after r p vars n ≡ values_after r p vars (n + 1)

-- how many of these numbers are at most n
abbrev pub count_up_to : (numbers : List ℕ) → ℕ → ℕ
count_up_to numbers n = length (filter (λ m. nat_le m n) numbers)

-- Of each process the row has how many of its kept events are this event or happened before it. A list for each process
-- has the numbers of its kept events.
pub record IsKnownTo (r : Recorded) (numbers : List (List ℕ)) (e : Place) (row : List ℕ) : Type 0 where
  pub one_each : length row ≡ length numbers
  pub each : (q : ℕ) → q < length numbers → (n : ℕ) × IsClock r.events e q n
      × (slice_index row q ≡ count_up_to (slice_index_or numbers q []) n)

-- ---- the order

-- What is seen of a process.
pub record ProcessOrder : Type 0 where
  -- what the variables are worth at the beginning, and after each kept event
  pub values : List ℤ
  -- the row of each kept event
  pub known : List ℕ

-- this is seen of process p
pub record IsSeenOf (r : Recorded) (vars : List ℕ) (numbers : List (List ℕ)) (p : ℕ) (order : ProcessOrder) :
    Type 0 where
  pub kept : AreKept r p vars (slice_index_or numbers p [])
  pub values : order.values ≡ flat_map (values_after r p vars) (0 ∷ slice_index_or numbers p [])
  pub rows : List (List ℕ)
  pub are_rows : AllZip (λ n row. IsKnownTo r numbers (place p n) row) (slice_index_or numbers p []) rows
  pub known : order.known ≡ flat_map (λ (row : List ℕ). row) rows

-- This is seen of the run: of each process, in their order.
pub record IsOrderOf (r : Recorded) (named : List (List ℕ)) (order : List ProcessOrder) : Type 0 where
  pub numbers : List (List ℕ)
  pub all_named : length named ≡ length r.events
  pub all_kept : length numbers ≡ length r.events
  pub all_seen : length order ≡ length r.events
  pub each : (p : ℕ) (of : ProcessOrder) → p < length r.events
      → IsSeenOf r (slice_index_or named p []) numbers p (slice_index_or order p of)
