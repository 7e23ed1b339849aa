-- What the events of a run that stand in an order know of: how many kept events of each process are such an event or
-- happened before it. A list for each process has the numbers of its kept events.
use Rattle.std.specs.Prelude.{◌≡◌, ◌⊎◌, ℕ, ◌+◌, ◌-◌, ◌*◌, ◌<◌, ◌≤◌, List, [], All, Option, Some, None, Vec, drop, length, slice_index, slice_index_or, take}
use Rattle.std.specs.Global.{Global}
use Rattle.def_format.specs.Limits.{event_limit}
use Rattle.def_model.specs.Events.{Computation, IsEvent, Place, place}
use Rattle.def_model.specs.Messages.{IsMessageList}
use Rattle.def_model.specs.Order.{IsClock}
use Rattle.def_orders.specs.Orders.{count_up_to}
use Rattle.pd_clock.specs.Orders.{IsOrdered, clock_at, clocks_of}
use Rattle.judge_orders.specs.KeptEvents.{AllAscend}

-- this many kept events of process q are the event or happened before it
abbrev pub HasRank : Computation → (numbers : List (List ℕ)) → Place → (q rank : ℕ) → Type 0
HasRank c numbers e q rank =
    (n : ℕ) × IsClock c e q n × (rank ≡ count_up_to (slice_index_or numbers q []) n)

-- the rows of a process's events, one after another
abbrev pub rows_of : List (Vec ℕ Global) → ℕ → List ℕ
rows_of rows p = clocks_of rows p

-- how many kept events of process q this event knows of, by the number of processes
abbrev pub rank_at : ℕ → List (Vec ℕ Global) → Place → ℕ → ℕ
rank_at processes rows e q = clock_at processes rows e q

-- each of the first `done` events of each process has its row, with a count for each process
pub record HasRanks (c : Computation) (numbers : List (List ℕ)) (done : List ℕ) (rows : List (Vec ℕ Global)) :
    Type 0 where
  pub one_each : length rows ≡ length c
  pub long : (p : ℕ) → p < length c → length (rows_of rows p) ≡ slice_index done p * length c
  pub right : (e : Place) (q : ℕ) → IsEvent c e → e.number ≤ slice_index done e.process → q < length c
      → HasRank c numbers e q (rank_at (length c) rows e q)

-- These are numbers of events of each process: they ascend, and no process has more than it may have in a session.
pub record AreEventNumbers (c : Computation) (numbers : List (List ℕ)) : Type 0 where
  pub one_each : length numbers ≡ length c
  pub ascend : AllAscend numbers
  pub there : (p : ℕ) → p < length numbers → All (λ n. IsEvent c (place p n)) (slice_index_or numbers p [])
  pub few : (p : ℕ) → length (slice_index_or numbers p []) ≤ event_limit

-- What is known where events are put into the order, one after another: the messages of the run, the numbers of its
-- kept events, and that the first `done` events of each process stand in the order and have their rows.
pub record IsRankTable (c : Computation) (pairs : List (Place × Place)) (numbers : List (List ℕ)) (done : List ℕ)
    (rows : List (Vec ℕ Global)) : Type 0 where
  pub messages : IsMessageList c pairs
  pub numbers_there : AreEventNumbers c numbers
  pub ordered : IsOrdered c done
  pub ranks : HasRanks c numbers done rows

-- the event of process p with this number; none if the number is 0
abbrev pub IsWithNumber : (p number : ℕ) → Option Place → Type 0
IsWithNumber p number event =
    ((number ≡ 0) × (event ≡ None)) ⊎ ((1 ≤ number) × (event ≡ Some (place p number)))

-- the row of a process's event n, where each of its rows has this width
abbrev pub row_at : (width : ℕ) → (rows : List ℕ) → ℕ → List ℕ
row_at width rows n = take width (drop ((n - 1) * width) rows)

-- there is a row for each of these events
abbrev pub HasRowsAt : (width : ℕ) → (rows : List ℕ) → (numbers : List ℕ) → Type 0
HasRowsAt width rows numbers = All (λ n. (1 ≤ n) × ((n - 1) * width + width ≤ length rows)) numbers
