-- How far the events stand in an order in which each comes after those that happened before it, and what is reported of
-- the others.
use Rattle.std.specs.Prelude.{◌≡◌, ◌↔◌, ◌⊎◌, ℕ, ◌+◌, ◌-◌, ◌*◌, ◌<◌, ◌≤◌, List, length, map, Option, Some, None, Vec, [], replicate, slice_get, slice_index}
use Rattle.std.specs.Global.{Global}
use Rattle.def_model.specs.Events as events
use Rattle.def_model.specs.Events.{Computation, event_count, IsEvent}
use Rattle.def_model.specs.Messages.{IsMessage}
use Rattle.def_model.specs.Order.{IsClock, IsStuck, LeadsTo}
use Rattle.pd_clock.specs.declared.fault.BuildFault.{BuildFault}
use Rattle.pd_clock.specs.declared.fault.BuildFault.TheVariants.{Cycle, Memory}
use Rattle.pd_match.specs.Views.{place_view}
use Rattle.pd_match.specs.declared.place.Place.{Place}

-- The order has the first `done` events of each process, and those that it leaves out are the stuck ones.
pub record LeavesStuck (c : Computation) (done : List ℕ) : Type 0 where
  pub one_each : length done ≡ length c
  pub within : (p : ℕ) → slice_index done p ≤ event_count c p
  pub left : (e : events.Place) → IsEvent c e → (slice_index done e.process < e.number) ↔ IsStuck c e

-- the clocks of a process's events, one after another
abbrev pub clocks_in : Option (Vec ℕ Global) → List ℕ
clocks_in None = []
clocks_in (Some row) = row.items

abbrev pub clocks_of : List (Vec ℕ Global) → ℕ → List ℕ
clocks_of clocks p = clocks_in (slice_get clocks p)

-- how many events of process q are in the clock of this event, by the number of processes
abbrev pub clock_at : ℕ → List (Vec ℕ Global) → events.Place → ℕ → ℕ
clock_at processes clocks e q = slice_index (clocks_of clocks e.process) ((e.number - 1) * processes + q)

-- each of the first `done` events of each process has its clock, with a count for each process
pub record HasClocks (c : Computation) (done : List ℕ) (clocks : List (Vec ℕ Global)) : Type 0 where
  pub one_each : length clocks ≡ length c
  pub rows : (p : ℕ) → p < length c → length (clocks_of clocks p) ≡ slice_index done p * length c
  pub right : (e : events.Place) (q : ℕ) → IsEvent c e → e.number ≤ slice_index done e.process → q < length c
      → IsClock c e q (clock_at (length c) clocks e q)

abbrev pub places_view : List Place → List events.Place
places_view places = map place_view places

-- the cycle that is reported, if it isn't out of memory
abbrev pub cycle_view : BuildFault → Option (List events.Place)
cycle_view (Cycle places) = Some (places_view places.items)
cycle_view Memory = None

-- the event is among the first of its process that stand in the order
abbrev pub IsDone : List ℕ → events.Place → Type 0
IsDone done e = e.number ≤ slice_index done e.process

-- The first `done` events of each process stand in an order: what leads to one of them stands in it, and lower.
pub record IsOrdered (c : Computation) (done : List ℕ) : Type 0 where
  pub one_each : length done ≡ length c
  pub within : (p : ℕ) → slice_index done p ≤ event_count c p
  pub rank : events.Place → ℕ
  pub top : ℕ
  pub below_top : (e : events.Place) → rank e < top
  pub before : (d e : events.Place) → LeadsTo c d e → IsDone done e → IsDone done d × (rank d < rank e)

-- the first event of process p that isn't in the order
abbrev pub next_of : List ℕ → ℕ → events.Place
next_of done p = events.place p (slice_index done p + 1)

-- Process p has a next event. If it is a receipt, its send stands in the order.
pub record CanGo (c : Computation) (done : List ℕ) (p : ℕ) : Type 0 where
  pub there : slice_index done p < event_count c p
  pub sent : (send : events.Place) → IsMessage c send (next_of done p) → IsDone done send

-- process p has no next event, or it is a receipt whose send isn't in the order
abbrev pub Waits : Computation → List ℕ → ℕ → Type 0
Waits c done p =
    (event_count c p ≤ slice_index done p)
    ⊎ ((send : events.Place) × IsMessage c send (next_of done p) × (slice_index done send.process < send.number))

-- the order of no event
pub record IsEmptyOrder (processes : ℕ) (done : List ℕ) (clocks : List (Vec ℕ Global)) : Type 0 where
  pub none : done ≡ replicate processes 0
  pub one_each : length clocks ≡ processes
  pub empty : (p : ℕ) → clocks_of clocks p ≡ []

-- as many rows of each process as stand in the order, with a count for each process
pub record HasRows (done : List ℕ) (clocks : List (Vec ℕ Global)) : Type 0 where
  pub one_each : length clocks ≡ length done
  pub rows : (p : ℕ) → length (clocks_of clocks p) ≡ slice_index done p * length done

-- how many events of process q are in the clock of this event; 0 for no event
abbrev pub count_of : ℕ → List (Vec ℕ Global) → Option events.Place → ℕ → ℕ
count_of processes clocks None q = 0
count_of processes clocks (Some e) q = clock_at processes clocks e q
