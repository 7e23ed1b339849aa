-- Messages, and what can be wrong with the ids of sends and receipts.
use Rattle.std.specs.Prelude.{◌≡◌, ◌≢◌, ℕ, ⊤, List, length, Some, ◌↔◌, Contains}
use Rattle.def_model.specs.Events.{Send, Receive, Computation, Place, IsBefore, Linked, kind_at}

abbrev pub Sends : Computation → Place → List ℕ → Type 0
Sends c e id = kind_at c e ≡ Some (Send id)

abbrev pub Receives : Computation → Place → List ℕ → Type 0
Receives c e id = kind_at c e ≡ Some (Receive id)

-- A message is a send and a receipt with one id, in different processes.
abbrev pub IsMessage : Computation → Place → Place → Type 0
IsMessage c send receipt =
    (id : List ℕ) × Sends c send id × Receives c receipt id × (send.process ≢ receipt.process)

-- a send whose id is sent at an earlier place
abbrev pub IsSentAgain : Computation → Place → Type 0
IsSentAgain c e = (id : List ℕ) × (d : Place) × Sends c e id × Sends c d id × IsBefore d e

-- a receipt whose id no send has
abbrev pub IsOrphan : Computation → Place → Type 0
IsOrphan c e = (id : List ℕ) × Receives c e id × ((d : Place) → ¬ Sends c d id)

-- a receipt whose send is of its own process
abbrev pub IsSelfMessage : Computation → Place → Type 0
IsSelfMessage c e = (id : List ℕ) × (d : Place) × Receives c e id × Sends c d id × (d.process ≡ e.process)

-- which processes may receive a message
pub data Version : Type 0 where
  -- one of them, once
  One : Version
  -- several of them, each once
  Two : Version

-- of two receipts of one id the later, at e, is one too many: in version 1 always, in version 2 in one process
abbrev pub IsSameReceiver : Version → Place → Place → Type 0
IsSameReceiver One d e = ⊤
IsSameReceiver Two d e = d.process ≡ e.process

-- a receipt whose id is received at an earlier place, in version 2 of its own process
abbrev pub IsReceivedAgain : Version → Computation → Place → Type 0
IsReceivedAgain version c e =
    (id : List ℕ) × (d : Place) × Receives c e id × Receives c d id × IsBefore d e × IsSameReceiver version d e

-- no id is sent twice
abbrev pub HasOneSender : Computation → Type 0
HasOneSender c = (e : Place) → ¬ IsSentAgain c e

-- the first place, in the order of places, of which P holds
abbrev pub IsFirstPlace : (Place → Type 0) → Place → Type 0
IsFirstPlace P e = P e × ((d : Place) → IsBefore d e → ¬ P d)

pub data Fault : Type 0 where
  SendTwice : Place → Fault
  Orphan : Place → Fault
  SelfMessage : Place → Fault
  ReceivedTwice : Place → Fault

-- the receipt at the place has one of the three faults of receipts
pub data IsBadReceipt (version : Version) (c : Computation) (e : Place) : Type 0 where
  orphan : IsOrphan c e → IsBadReceipt version c e
  self_message : IsSelfMessage c e → IsBadReceipt version c e
  received_again : IsReceivedAgain version c e → IsBadReceipt version c e

-- The fault that is reported: the first send whose id was sent before; if there is none, the first receipt with a
-- fault. Of the faults of one receipt an orphan comes first, then a message to its own process, then a second receipt.
abbrev pub IsReported : Version → Computation → Fault → Type 0
IsReported version c (SendTwice e) = IsFirstPlace (IsSentAgain c) e
IsReported version c (Orphan e) = HasOneSender c × IsFirstPlace (IsBadReceipt version c) e × IsOrphan c e
IsReported version c (SelfMessage e) =
    HasOneSender c × IsFirstPlace (IsBadReceipt version c) e × (¬ IsOrphan c e) × IsSelfMessage c e
IsReported version c (ReceivedTwice e) =
    HasOneSender c × IsFirstPlace (IsBadReceipt version c) e × (¬ IsOrphan c e) × (¬ IsSelfMessage c e)
    × IsReceivedAgain version c e

-- every id is sent once; and it is received by other processes, and by no more of them than the version says
pub record HasLawfulMessages (version : Version) (c : Computation) : Type 0 where
  pub sent_once : HasOneSender c
  pub received_well : (e : Place) → ¬ IsBadReceipt version c e

-- the messages, each as its send and its receipt, in the order of the receipts' places
pub record IsMessageList (c : Computation) (pairs : List (Place × Place)) : Type 0 where
  pub ascending : Linked (λ (earlier later : Place × Place). IsBefore earlier.1 later.1) pairs
  pub just : (send receipt : Place) → Contains pairs (send, receipt) ↔ IsMessage c send receipt

-- the sends that are received, in the order of their places
pub record AreReceived (c : Computation) (sends : List Place) : Type 0 where
  pub ascending : Linked IsBefore sends
  pub just : (send : Place) → Contains sends send ↔ ((receipt : Place) × IsMessage c send receipt)

-- A computation has n messages if n of its sends are received: a message with several receipts is one.
abbrev pub HasMessages : Computation → ℕ → Type 0
HasMessages c n = (sends : List Place) × AreReceived c sends × (n ≡ length sends)
