-- Happened before, and the causal cycle that is reported if there is one. Source: Lamport, Time, Clocks, and the
-- Ordering of Events in a Distributed System, 1978.
use Rattle.std.specs.Prelude.{◌≤◌, ◌↔◌, ◌≡◌, ◌≢◌, ℕ, ◌<◌, ◌⊎◌, List, [], ◌∷◌, ◌++◌, Some, AllPairs}
use Rattle.def_model.specs.Events.{Computation, Place, place, IsEvent, event_count, Linked, first_of}
use Rattle.def_model.specs.Messages.{IsMessage, Version, HasLawfulMessages}

-- f is a later event of e's process
abbrev pub IsLater : Computation → Place → Place → Type 0
IsLater c e f = IsEvent c e × IsEvent c f × (e.process ≡ f.process) × (e.number < f.number)

-- f is a later event of e's process, or the receipt of the message that e sends
abbrev pub LeadsTo : Computation → Place → Place → Type 0
LeadsTo c e f = IsLater c e f ⊎ IsMessage c e f

-- e happened before f: a list of two places or more begins with e and ends with f, and each place in it leads to the
-- next.
abbrev pub HappenedBefore : Computation → Place → Place → Type 0
HappenedBefore c e f = (between : List Place) × Linked (LeadsTo c) (e ∷ between ++ f ∷ [])

-- e is f, or happened before it
abbrev pub IsUpTo : Computation → Place → Place → Type 0
IsUpTo c e f = (e ≡ f) ⊎ HappenedBefore c e f

-- n is the number of events of process q that are e or happened before it: they are the first n
pub record IsClock (c : Computation) (e : Place) (q n : ℕ) : Type 0 where
  pub within : n ≤ event_count c q
  pub past : (m : ℕ) → 1 ≤ m → m ≤ event_count c q → (m ≤ n) ↔ IsUpTo c (place q m) e

-- no event happened before itself
abbrev pub HasNoCycle : Computation → Type 0
HasNoCycle c = (e : Place) → ¬ HappenedBefore c e e

-- a computation that can have happened
pub record IsWellFormed (version : Version) (c : Computation) : Type 0 where
  pub messages : HasLawfulMessages version c
  pub no_cycle : HasNoCycle c

-- An event is stuck if it is on a causal cycle or after one. (On one: f is e.)
abbrev pub IsStuck : Computation → Place → Type 0
IsStuck c e = (f : Place) × HappenedBefore c f f × HappenedBefore c f e

-- the first event of its process that is stuck
abbrev pub IsFirstStuck : Computation → Place → Type 0
IsFirstStuck c e = IsStuck c e × ((n : ℕ) → n < e.number → ¬ IsStuck c (place e.process n))

-- the first stuck event of the least process that has one
abbrev pub IsLeastStuck : Computation → Place → Type 0
IsLeastStuck c e = IsFirstStuck c e × ((f : Place) → f.process < e.process → ¬ IsStuck c f)

-- from a receipt to the first stuck event of the process that sent its message
abbrev pub GoesBackTo : Computation → Place → Place → Type 0
GoesBackTo c e f = IsFirstStuck c f × ((send : Place) × IsMessage c send e × (send.process ≡ f.process))

-- no process comes twice
abbrev pub HasEachProcessOnce : List Place → Type 0
HasEachProcessOnce places = AllPairs (λ (e f : Place). e.process ≢ f.process) places

-- The cycle that is reported: go from the first stuck event of the least process that has one to the first stuck event
-- of the process that sent its message, and so on. `before` and the cycle, whose first place is `start`, are the places
-- taken until a process comes again, and that is the process of `start`.
pub record IsReportedCycle (c : Computation) (cycle : List Place) : Type 0 where
  pub before : List Place
  pub start : Place
  pub starts : first_of cycle ≡ Some start
  pub first : Place
  pub begins : first_of (before ++ cycle) ≡ Some first
  pub least : IsLeastStuck c first
  pub steps : Linked (GoesBackTo c) (before ++ cycle ++ start ∷ [])
  pub once : HasEachProcessOnce (before ++ cycle)
