-- A computation in which receipts that aren't kept are local events.
use Rattle.std.specs.Prelude.{◌≡◌, ◌<◌, ℕ, suc, Bool, false, ◌&&◌, cond, nat_eq, List, [], ◌∷◌, length, slice_index_or}
use Rattle.std.specs.List.{list_any}
use Rattle.def_model.specs.Events.{Kind, Local, Send, Receive, Event, Computation, Place, place}
use Rattle.def_model.specs.Messages.{Version}
use Rattle.def_model.specs.Order.{IsWellFormed}
use Rattle.def_model.specs.Predicates.{Recorded}
use Rattle.read_traces.specs.declared.event.Trace.{Trace}

-- whether the list has this place
abbrev pub is_place : Place → Place → Bool
is_place e other = nat_eq e.process other.process && nat_eq e.number other.number

abbrev pub is_listed : List Place → Place → Bool
is_listed receipts e = list_any (is_place e) receipts

-- a receipt that isn't kept is local
abbrev pub kind_if : (is_kept : Bool) → Kind → Kind
kind_if is_kept Local = Local
kind_if is_kept (Send id) = Send id
kind_if is_kept (Receive id) = cond is_kept (Receive id) Local

abbrev pub event_if : (is_kept : Bool) → Event → Event
event_if is_kept event = record { kind = kind_if is_kept event.kind; sets = event.sets }

-- the events of process p from the index n on
abbrev pub reduced_from : (is_kept : Place → Bool) → (p n : ℕ) → List Event → List Event
reduced_from is_kept p n [] = []
reduced_from is_kept p n (event ∷ rest) =
    event_if (is_kept (place p (suc n))) event ∷ reduced_from is_kept p (suc n) rest

-- the processes from p on
abbrev pub reduced_processes : (is_kept : Place → Bool) → (p : ℕ) → Computation → Computation
reduced_processes is_kept p [] = []
reduced_processes is_kept p (events ∷ rest) =
    reduced_from is_kept p 0 events ∷ reduced_processes is_kept (suc p) rest

abbrev pub reduced : (is_kept : Place → Bool) → Computation → Computation
reduced is_kept c = reduced_processes is_kept 0 c

abbrev pub reduced_run : (is_kept : Place → Bool) → Recorded → Recorded
reduced_run is_kept r = record { initial = r.initial; events = reduced is_kept r.events }

-- ---- as the program makes it

-- the first `len` events of process p are marked if they are among these places
pub record AreMarks (receipts : List Place) (p len : ℕ) (marks : List Bool) : Type 0 where
  pub one_each : length marks ≡ len
  pub marked : (k : ℕ) → k < len → slice_index_or marks k false ≡ is_listed receipts (place p (suc k))

-- the trace of process p with its events so
abbrev pub reduced_trace : (is_kept : Place → Bool) → (p : ℕ) → Trace → Trace
reduced_trace is_kept p trace = record {
  process = trace.process;
  join_line = trace.join_line;
  events = reduced_from is_kept p 0 trace.events;
}

-- the traces of the processes from p on
abbrev pub reduced_traces : (is_kept : Place → Bool) → (p : ℕ) → List Trace → List Trace
reduced_traces is_kept p [] = []
reduced_traces is_kept p (trace ∷ rest) = reduced_trace is_kept p trace ∷ reduced_traces is_kept (suc p) rest

-- ---- laws

-- without some of its messages a well-formed computation stays one
abbrev pub StaysWellFormed : Type 0
StaysWellFormed =
    (version : Version) (is_kept : Place → Bool) (c : Computation) → IsWellFormed version c
    → IsWellFormed version (reduced is_kept c)
