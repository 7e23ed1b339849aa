-- Consistent cuts: as sets of events, and as counts, one for each process.
use Rattle.std.specs.Prelude.{◌≡◌, ℕ, zero, suc, ◌+◌, ◌-◌, ◌<◌, ◌≤◌, Bool, true, false, ◌&&◌, cond, List, [], ◌∷◌, length, map, sum, nat_le, IsTrue, slice_index, slice_set, Contains}
use Rattle.def_model.specs.Events.{Event, Computation, Place, place, event_count, IsEvent}
use Rattle.def_model.specs.Order.{HappenedBefore}

-- A set of events is a test on places. It is a cut if it also has each event that happened before one of its events.
pub record IsCut (c : Computation) (cut : Place → Bool) : Type 0 where
  pub events : (e : Place) → IsTrue (cut e) → IsEvent c e
  pub closed : (e f : Place) → HappenedBefore c e f → IsTrue (cut f) → IsTrue (cut e)

-- how many of the numbers from 1 to n pass the test
abbrev pub count_to : (ℕ → Bool) → ℕ → ℕ
count_to test zero = 0
count_to test (suc n) = count_to test n + cond (test (suc n)) 1 0

-- the count of a process is the number of its events in the set
abbrev pub count_in : Computation → (Place → Bool) → ℕ → ℕ
count_in c cut p = count_to (λ n. cut (place p n)) (event_count c p)

-- p, p + 1 and so on, one for each element
abbrev pub indices_from : {A : Type 0} → ℕ → List A → List ℕ
indices_from p [] = []
indices_from p (x ∷ rest) = p ∷ indices_from (suc p) rest

-- the counts of a set of events, in the order of the processes
abbrev pub counts_of : Computation → (Place → Bool) → List ℕ
counts_of c cut = map (count_in c cut) (indices_from 0 c)

-- the counts include the event: it is among the first of its process, up to the count
abbrev pub Includes : List ℕ → Place → Type 0
Includes counts e = (1 ≤ e.number) × (e.number ≤ slice_index counts e.process)

-- the set of the events that the counts include
abbrev pub cut_of : List ℕ → Place → Bool
cut_of counts e = nat_le 1 e.number && nat_le e.number (slice_index counts e.process)

-- one count for each process, none above the number of its events
pub record FitsProcesses (c : Computation) (counts : List ℕ) : Type 0 where
  pub one_each : length counts ≡ length c
  pub within : (p : ℕ) → slice_index counts p ≤ event_count c p

-- Counts are consistent if they are those of a cut: with an event they include each that happened before it.
pub record IsConsistent (c : Computation) (counts : List ℕ) : Type 0 where
  pub fits : FitsProcesses c counts
  pub closed : (e f : Place) → HappenedBefore c e f → Includes counts f → Includes counts e

-- the cut with no event, and the cut with all
abbrev pub empty_cut : Computation → List ℕ
empty_cut c = map (λ (events : List Event). 0) c

abbrev pub full_cut : Computation → List ℕ
full_cut c = map (λ (events : List Event). length events) c

-- how many events the computation has
abbrev pub total : Computation → ℕ
total c = sum (full_cut c)

-- the counts with one event of process p more, or less
abbrev pub one_more : List ℕ → ℕ → List ℕ
one_more counts p = slice_set counts p (slice_index counts p + 1)

abbrev pub one_less : List ℕ → ℕ → List ℕ
one_less counts p = slice_set counts p (slice_index counts p - 1)

-- new has exactly one event more than old
abbrev pub AddsEvent : List ℕ → List ℕ → Type 0
AddsEvent old new = (p : ℕ) × (p < length old) × (new ≡ one_more old p)

-- the same of sets of events
abbrev pub AddsPlace : (Place → Bool) → (Place → Bool) → Type 0
AddsPlace old new =
    (e : Place) × (old e ≡ false) × (new e ≡ true) × ((f : Place) → ¬ (f ≡ e) → new f ≡ old f)

-- Level k is the set of the consistent cuts of k events.
abbrev pub IsOfLevel : Computation → ℕ → List ℕ → Type 0
IsOfLevel c k cut = IsConsistent c cut × (sum cut ≡ k)

-- the consistent cuts that hold all events of some cut of the list and one more
abbrev pub IsNextOf : Computation → List (List ℕ) → List ℕ → Type 0
IsNextOf c cuts cut = IsConsistent c cut × ((old : List ℕ) × Contains cuts old × AddsEvent old cut)
