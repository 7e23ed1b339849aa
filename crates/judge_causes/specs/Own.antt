-- Where nothing but the order of one process connects two of some messages.
use Rattle.std.specs.Prelude.{◌≡◌, ◌<◌, ◌≤◌, ◌↔◌, [], ◌∷◌, Contains, List, Option, Some, None}
use Rattle.def_model.specs.Events.{Computation, Place}
use Rattle.def_model.specs.Messages.{IsMessage}

-- the receipt is the last of these before the send in its process
pub record IsLastBefore (receipts : List Place) (send receipt : Place) : Type 0 where
  pub listed : Contains receipts receipt
  pub same : receipt.process ≡ send.process
  pub before : receipt.number < send.number
  pub last : (other : Place) → Contains receipts other → other.process ≡ send.process → other.number < send.number
      → other.number ≤ receipt.number

-- what is found of these receipts: the last before the send, or none is before it
abbrev pub FindsLastBefore : List Place → Place → Option Place → Type 0
FindsLastBefore receipts send None =
    (other : Place) → Contains receipts other → other.process ≡ send.process → ¬ (other.number < send.number)
FindsLastBefore receipts send (Some receipt) = IsLastBefore receipts send receipt

-- The send is that of a message which is received among these, and the receipt is the last of the receipts before it in
-- its process. It may be that only the order in which this process was recorded puts one before the other.
pub record IsOwnOrder (c : Computation) (received receipts : List Place) (receipt send : Place) : Type 0 where
  pub other : Place
  pub listed : Contains received other
  pub message : IsMessage c send other
  pub last : IsLastBefore receipts send receipt

-- these pairs of a receipt and a send are those, and no others
abbrev pub AreOwnOrders : Computation → (received receipts : List Place) → List (Place × Place) → Type 0
AreOwnOrders c received receipts pairs =
    (receipt send : Place) → Contains pairs (receipt, send) ↔ IsOwnOrder c received receipts receipt send

-- the pair, if there is a receipt
abbrev pub pair_if : Option Place → Place → List (Place × Place)
pair_if None send = []
pair_if (Some receipt) send = (receipt, send) ∷ []
