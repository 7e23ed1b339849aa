-- The columns of events, as a table keeps them: a row for each process, which begins with a 0 before its first event.
use Rattle.std.specs.Prelude.{◌≡◌, ℕ, ◌+◌, ◌-◌, ◌<◌, ◌≤◌, ◌⊎◌, List, length, map, sum, slice_index, Option, Some, None, Vec}
use Rattle.std.specs.Global.{Global}
use Rattle.def_model.specs.Events.{Computation, Place, place, IsEvent, event_count}
use Rattle.def_model.specs.Messages.{IsMessage}
use Rattle.def_model.specs.Cuts.{total}
use Rattle.pd_clock.specs.Orders.{IsDone, clocks_of, next_of}
use Rattle.pd_match.specs.Views.{place_view}
use Rattle.pd_match.specs.declared.place.Place.{Place as MatchedPlace}

-- the row of a process
abbrev pub row_of : List (Vec ℕ Global) → ℕ → List ℕ
row_of rows p = clocks_of rows p

-- the column of an event, which is 0 for number 0
abbrev pub column_at : List (Vec ℕ Global) → Place → ℕ
column_at rows e = slice_index (row_of rows e.process) e.number

-- the column of an event, if there is one, and else 0
abbrev pub column_of : List (Vec ℕ Global) → Option MatchedPlace → ℕ
column_of rows None = 0
column_of rows (Some e) = column_at rows (place_view e)

-- the place before this one in its process
abbrev pub place_before : Place → Place
place_before e = place e.process (e.number - 1)

-- The event stands right of the one before it and of its message's send, and next to one of them.
pub record IsNextTo (c : Computation) (columns : Place → ℕ) (e : Place) : Type 0 where
  pub own : columns (place_before e) < columns e
  pub sent : (send : Place) → IsMessage c send e → columns send < columns e
  pub next : (columns e ≡ columns (place_before e) + 1)
      ⊎ ((send : Place) × IsMessage c send e × (columns e ≡ columns send + 1))

-- the column of the next event of process p
pub record IsNextColumn (c : Computation) (done : List ℕ) (rows : List (Vec ℕ Global)) (p column : ℕ) : Type 0 where
  pub own : column_at rows (place p (slice_index done p)) < column
  pub sent : (send : Place) → IsMessage c send (next_of done p) → column_at rows send < column
  pub next : (column ≡ column_at rows (place p (slice_index done p)) + 1)
      ⊎ ((send : Place) × IsMessage c send (next_of done p) × (column ≡ column_at rows send + 1))

-- the columns of the first `done` events of each process
pub record HasColumns (c : Computation) (done : List ℕ) (rows : List (Vec ℕ Global)) : Type 0 where
  pub one_each : length rows ≡ length c
  pub lengths : (p : ℕ) → p < length c → length (row_of rows p) ≡ slice_index done p + 1
  pub zero_first : (p : ℕ) → column_at rows (place p 0) ≡ 0
  pub steps : (e : Place) → IsEvent c e → IsDone done e → IsNextTo c (column_at rows) e
  pub small : (e : Place) → IsDone done e → column_at rows e ≤ sum done

-- the columns of all events
pub record IsTable (c : Computation) (rows : List (Vec ℕ Global)) : Type 0 where
  pub one_each : length rows ≡ length c
  pub lengths : (p : ℕ) → p < length c → length (row_of rows p) ≡ event_count c p + 1
  pub zero_first : (p : ℕ) → column_at rows (place p 0) ≡ 0
  pub small : (e : Place) → IsEvent c e → column_at rows e ≤ total c

abbrev pub places_view : List MatchedPlace → List Place
places_view places = map place_view places
