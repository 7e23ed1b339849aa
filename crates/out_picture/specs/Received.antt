-- Which sends are received, as a table keeps it: a row for each process, with a mark for each of its events.
use Rattle.std.specs.Prelude.{◌≡◌, ℕ, zero, suc, ◌-◌, ◌≤◌, Bool, true, false, not, ◌&&◌, List, [], length, slice_get, slice_index_or, slice_set, Option, Some, None, Vec}
use Rattle.std.specs.Global.{Global}
use Rattle.def_model.specs.Events.{Computation, Place, IsEvent, kind_at}
use Rattle.pd_match.specs.declared.place.Place.{Place as MatchedPlace}
use Rattle.out_picture.specs.Flights.{is_received, is_send}

abbrev pub marks_in : Option (Vec Bool Global) → List Bool
marks_in None = []
marks_in (Some row) = row.items

-- the marks of a process
abbrev pub marks_of : List (Vec Bool Global) → ℕ → List Bool
marks_of rows p = marks_in (slice_get rows p)

-- the marks after that of the event with this number is set; the same marks, if there is no such event
abbrev pub with_mark : List Bool → (number : ℕ) → List Bool
with_mark marks zero = marks
with_mark marks (suc n) = slice_set marks n true

-- the table has a mark of this event
abbrev pub HasMark : List (Vec Bool Global) → Place → Type 0
HasMark rows e = (1 ≤ e.number) × (e.number ≤ length (marks_of rows e.process))

-- the mark of an event of the table
abbrev pub mark_at : List (Vec Bool Global) → Place → Bool
mark_at rows e = slice_index_or (marks_of rows e.process) (e.number - 1) false

-- Each event has a mark, and the marks that are set are those of the sends of these messages.
pub record AreReceived (c : Computation) (messages : List (MatchedPlace × MatchedPlace))
    (rows : List (Vec Bool Global)) : Type 0 where
  pub whole : (e : Place) → IsEvent c e → HasMark rows e
  pub right : (e : Place) → HasMark rows e → mark_at rows e ≡ is_received messages e

-- the event sends a message, and its mark isn't set
abbrev pub is_unmarked_send : Computation → List (Vec Bool Global) → Place → Bool
is_unmarked_send c rows e = is_send (kind_at c e) && not (mark_at rows e)
