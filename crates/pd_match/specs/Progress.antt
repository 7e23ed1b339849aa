-- How far the receipts have been matched.
use Rattle.std.specs.Prelude.{◌≡◌, ◌++◌, ◌↔◌, ◌<◌, ℕ, List, Some, Contains, length, slice_get, Vec}
use Rattle.std.specs.declared.alloc.Global.{Global}
use Rattle.def_model.specs.Events.{Computation, IsBefore, Linked, event_count}
use Rattle.def_model.specs.Events as events
use Rattle.def_model.specs.Messages.{IsMessage, Version}
use Rattle.pd_match.specs.declared.sender.Sender.{Sender}
use Rattle.pd_match.specs.Noted.{HasReceived, NoneBadBefore, event_place, pairs_from, pairs_in, row_at, sender_view}

-- the receipts before this place are marked, and none is at fault
pub record MatchedBefore (version : Version) (c : Computation) (here : events.Place) (last : List ℕ → ℕ) :
    Type 0 where
  pub marked : HasReceived c here last
  pub good : NoneBadBefore version c here

-- this many sends are received before this place
pub record SendsBefore (c : Computation) (here : events.Place) (n : ℕ) : Type 0 where
  pub sends : List events.Place
  pub ascending : Linked IsBefore sends
  pub just : (send : events.Place) → Contains sends send
      ↔ ((receipt : events.Place) × IsMessage c send receipt × IsBefore receipt here)
  pub counted : n ≡ length sends

-- The pairs are the messages whose receipts stand before this place, in the order of the receipts.
pub record PairsBefore (c : Computation) (here : events.Place) (pairs : List (events.Place × events.Place)) :
    Type 0 where
  pub ascending : Linked (λ (earlier later : events.Place × events.Place). IsBefore earlier.1 later.1) pairs
  pub just : (send receipt : events.Place) → Contains pairs (send, receipt)
      ↔ (IsMessage c send receipt × IsBefore receipt here)

-- the row has the sends of the first n events of the process
pub record RowTells (c : Computation) (p : ℕ) (row : List Sender) (n : ℕ) : Type 0 where
  pub same : length row ≡ n
  pub tells : (k : ℕ) (send : events.Place) → k < n → (sender_view (slice_get row k) ≡ Some send)
      ↔ IsMessage c send (event_place p k)
  pub adds : (pairs : List (events.Place × events.Place)) → PairsBefore c (event_place p 0) pairs
      → PairsBefore c (event_place p n) (pairs ++ pairs_from p 0 row)

-- the rows are those of the first p processes, whole
pub record RowsTell (c : Computation) (rows : List (Vec Sender Global)) (p : ℕ) : Type 0 where
  pub same : length rows ≡ p
  pub tell : (q : ℕ) → q < p → RowTells c q (row_at rows q) (event_count c q)
  pub pairs : PairsBefore c (event_place p 0) (pairs_in 0 rows)
