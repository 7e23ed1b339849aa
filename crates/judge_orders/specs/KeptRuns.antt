-- The order of a run with the events that are kept, and when these are few.
use Rattle.std.specs.Prelude.{◌≡◌, ℕ, ◌<◌, ◌≤◌, List, [], ◌∷◌, All, ℤ, Vec, flat_map, length, map, slice_index_or}
use Rattle.std.specs.Global.{Global}
use Rattle.std.specs.List.{zip}
use Rattle.def_format.specs.Documents.{Document, NamedPredicate}
use Rattle.def_format.specs.Limits.{event_limit}
use Rattle.def_model.specs.Events.{Computation, Event, events_of}
use Rattle.def_model.specs.Predicates.{Initial, Recorded}
use Rattle.def_orders.specs.Orders as orders
use Rattle.def_orders.specs.Orders.{AreKept, IsOver, values_after}
use Rattle.judge_orders.specs.Growth.{SeeNoOther}
use Rattle.judge_orders.specs.KeptEvents.{AllKept}
use Rattle.judge_orders.specs.Lists.{lists_view}
use Rattle.judge_orders.specs.OrderViews.{HasOrder, named_view}
use Rattle.judge_orders.specs.declared.long_order.KeptRun.{KeptRun}
use Rattle.pd_clock.specs.Histories.{AreVars}

-- ---- the processes

-- the values of each list
abbrev pub values_view : List (Vec ℤ Global) → List (List ℤ)
values_view lists = map (λ list. list.items) lists

-- There is a row of values for each process, and its events set variables that have a value there.
pub record HaveRows (initial : Initial) (c : Computation) : Type 0 where
  pub one_each : length initial ≡ length c
  pub vars : (p : ℕ) → All (λ (event : Event). AreVars (length (slice_index_or initial p [])) event.sets)
      (events_of c p)

-- Each of the first k processes has its kept events, and what its variables are worth at the beginning and after each
-- of these.
pub record HaveKept (r : Recorded) (named numbers : List (List ℕ)) (values : List (List ℤ)) (k : ℕ) : Type 0 where
  pub kept : AllKept r named numbers k
  pub values_are : (p : ℕ) → p < k → slice_index_or values p []
      ≡ flat_map (values_after r p (slice_index_or named p [])) (0 ∷ slice_index_or numbers p [])

-- what is seen of each process, by the values and the rows of each
abbrev pub orders_with : List (List ℤ) → List (List ℕ) → List orders.ProcessOrder
orders_with values known = map (λ (parts : List ℤ × List ℕ). record { values = parts.0; known = parts.1 })
    (zip values known)

-- ---- the run

-- It is the order of what was recorded, and these are the numbers of the kept events of each process.
pub record HasKept (document : Document) (r : Recorded) (run : KeptRun) : Type 0 where
  pub order : HasOrder document r run.order
  pub one_each : length (lists_view run.numbers.items) ≡ length r.events
  pub kept : AllKept r (named_view run.order) (lists_view run.numbers.items) (length r.events)

-- These are the numbers of the events of each process that set a variable that a predicate names to another value.
pub record AreKeptEventsOf (document : Document) (r : Recorded) (numbers : List (List ℕ)) : Type 0 where
  pub named : List (List ℕ)
  pub one_each : length named ≡ length r.events
  pub over : All (λ (asked : NamedPredicate). IsOver named asked.predicate) document.predicates
  pub just : SeeNoOther named (length r.events) document.predicates
  pub kept : AllKept r named numbers (length r.events)

-- no process has more of these than the limit of events
abbrev pub AreWithinLimit : (numbers : List (List ℕ)) → (processes : ℕ) → Type 0
AreWithinLimit numbers processes = (p : ℕ) → p < processes → length (slice_index_or numbers p []) ≤ event_limit

-- no process keeps more events than the limit of events
abbrev pub KeepsFew : Document → Recorded → Type 0
KeepsFew document r =
    (numbers : List (List ℕ)) → AreKeptEventsOf document r numbers → AreWithinLimit numbers (length r.events)
