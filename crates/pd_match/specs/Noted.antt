-- What the maps of ids, the pairs and the table of senders stand for.
use Rattle.std.specs.Prelude.{◌≡◌, ◌≢◌, ◌↔◌, ◌≤◌, ℕ, suc, Bool, true, not, List, [], ◌∷◌, Contains, length, Option, Some, None, option_map, slice_get, slice_index_or, bytes_eq, nat_eq, cond, ◌++◌, Vec}
use Rattle.std.specs.List.{count_by}
use Rattle.std.specs.declared.alloc.Global.{Global}
use Rattle.indexmap.specs.IndexMap.{IndexMap, get_by, index_of_by}
use Rattle.def_model.specs.Events.{Kind, Receive, Computation, IsBefore, Linked, kind_at, numbered, place}
use Rattle.def_model.specs.Events as events
use Rattle.def_model.specs.Messages.{Version, One, Two, IsBadReceipt}
use Rattle.def_model.specs.Messages as messages
use Rattle.pd_match.specs.declared.id.Id.{Id}
use Rattle.pd_match.specs.declared.place.Place.{Place}
use Rattle.pd_match.specs.declared.sender.Sender.{Sender}
use Rattle.pd_match.specs.Views.{place_view}

-- the place of a process's event with this index, which is counted from 0
abbrev pub event_place : ℕ → ℕ → events.Place
event_place p n = place p (suc n)

-- the place that a map has for an id
abbrev pub place_noted : {S : Type 0} → IndexMap Id Place S → List ℕ → Option events.Place
place_noted places id = option_map place_view (get_by (λ k. bytes_eq id k.0.now) places)

-- the mark with this index
abbrev pub mark_at : List ℕ → Option ℕ → ℕ
mark_at marks None = 0
mark_at marks (Some index) = slice_index_or marks index 0

-- The mark of an id, which has the index that the id has in the map: 0 if the id isn't received, and else 1 and the
-- last process that received it.
abbrev pub last_receiver : {S : Type 0} → IndexMap Id Place S → List ℕ → List ℕ → ℕ
last_receiver places marks id = mark_at marks (index_of_by (λ k. bytes_eq id k.0.now) places)

-- whether a receipt by this process is one too many, where the last receiver is marked so
abbrev pub again : Version → ℕ → ℕ → Bool
again One last process = not (nat_eq last 0)
again Two last process = nat_eq last (suc process)

-- Each id that stands in an event of this sort before this place is noted, with the place of the event, and no other id
-- is.
abbrev pub HasBefore : (List ℕ → Kind) → Computation → events.Place → (List ℕ → Option events.Place) → Type 0
HasBefore sort c here noted =
    (id : List ℕ) (d : events.Place) → (noted id ≡ Some d) ↔ ((kind_at c d ≡ Some (sort id)) × IsBefore d here)

-- the same of all places
abbrev pub HasAll : (List ℕ → Kind) → Computation → (List ℕ → Option events.Place) → Type 0
HasAll sort c noted = (id : List ℕ) (d : events.Place) → (noted id ≡ Some d) ↔ (kind_at c d ≡ Some (sort id))

-- the id is received at d, before this place
abbrev pub IsReceivedBefore : Computation → events.Place → List ℕ → events.Place → Type 0
IsReceivedBefore c here id d = (kind_at c d ≡ Some (Receive id)) × IsBefore d here

-- Each id that is received before this place is marked with the last process that does so, and no other id is marked.
pub record HasReceived (c : Computation) (here : events.Place) (last : List ℕ → ℕ) : Type 0 where
  pub found : (id : List ℕ) (q : ℕ) → last id ≡ suc q → (d : events.Place) × IsReceivedBefore c here id d
      × (d.process ≡ q)
  pub latest : (id : List ℕ) (d : events.Place) → IsReceivedBefore c here id d → (q : ℕ) × (last id ≡ suc q)
      × (d.process ≤ q)

-- no receipt before this place has a fault
abbrev pub NoneBadBefore : Version → Computation → events.Place → Type 0
NoneBadBefore version c here = (d : events.Place) → IsBefore d here → ¬ IsBadReceipt version c d

-- The fault that is reported of a receipt: whether its id is sent, and whether it is one too many, says which.
abbrev pub IsReportedOf : Option events.Place → Bool → events.Place → Option messages.Fault → Type 0
IsReportedOf sent again here None = Unit {0}
IsReportedOf sent again here (Some (messages.SendTwice e)) = ⊥
IsReportedOf sent again here (Some (messages.Orphan e)) = (e ≡ here) × (sent ≡ None)
IsReportedOf sent again here (Some (messages.SelfMessage e)) =
    (e ≡ here) × ((send : events.Place) × (sent ≡ Some send) × (send.process ≡ here.process))
IsReportedOf sent again here (Some (messages.ReceivedTwice e)) =
    (e ≡ here) × ((send : events.Place) × (sent ≡ Some send) × (send.process ≢ here.process))
    × (again ≡ true)

-- the pair of a receipt and its send, if there is one
abbrev pub kept : Option events.Place → events.Place → List (events.Place × events.Place)
kept None receipt = []
kept (Some send) receipt = (send, receipt) ∷ []

-- the send that is kept for an event
abbrev pub send_in : Sender → Option events.Place
send_in sender = cond (nat_eq sender.number 0) None (Some (place sender.process sender.number))

-- the items of the vector, none where there is no vector
abbrev pub items_in : Option (Vec Sender Global) → List Sender
items_in None = []
items_in (Some row) = row.items

abbrev pub row_at : List (Vec Sender Global) → ℕ → List Sender
row_at rows p = items_in (slice_get rows p)

abbrev pub sender_view : Option Sender → Option events.Place
sender_view None = None
sender_view (Some sender) = send_in sender

-- the sender that a table of senders has for a receipt
abbrev pub sender_at : List (Vec Sender Global) → events.Place → Option events.Place
sender_at rows receipt = sender_view (numbered (row_at rows receipt.process) receipt.number)

-- the messages of a row of senders, which begins at the event of process p with this index
abbrev pub pairs_from : ℕ → ℕ → List Sender → List (events.Place × events.Place)
pairs_from p n [] = []
pairs_from p n (sender ∷ rest) = kept (send_in sender) (event_place p n) ++ pairs_from p (suc n) rest

-- the messages of a table of senders whose first row is that of process p
abbrev pub pairs_in : ℕ → List (Vec Sender Global) → List (events.Place × events.Place)
pairs_in p [] = []
pairs_in p (row ∷ rest) = pairs_from p 0 row.items ++ pairs_in (suc p) rest

-- how many sends are marked as received
abbrev pub sends_marked : List ℕ → ℕ
sends_marked marks = count_by (λ last. not (nat_eq last 0)) marks

-- the sends that stand in pairs, each once, in the order of their places
pub record AreSendsOf (pairs : List (events.Place × events.Place)) (sends : List events.Place) : Type 0 where
  pub ascending : Linked IsBefore sends
  pub just : (send : events.Place) → Contains sends send ↔ ((receipt : events.Place) × Contains pairs (send, receipt))

-- the pairs have this many sends
abbrev pub CountsSends : List (events.Place × events.Place) → ℕ → Type 0
CountsSends pairs n = (sends : List events.Place) × AreSendsOf pairs sends × (n ≡ length sends)
