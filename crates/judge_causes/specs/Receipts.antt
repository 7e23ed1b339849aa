-- The receipts of a run, in the order of their places.
use Rattle.std.specs.Prelude.{ℕ, suc, List, [], ◌∷◌, ◌++◌}
use Rattle.def_model.specs.Events.{Kind, Local, Send, Receive, Event, Computation, Place, place}

-- the place, if the event there is a receipt
abbrev pub receipt_if : Place → Kind → List Place
receipt_if e Local = []
receipt_if e (Send id) = []
receipt_if e (Receive id) = e ∷ []

-- those of process p from the index n on
abbrev pub receipts_from : (p n : ℕ) → List Event → List Place
receipts_from p n [] = []
receipts_from p n (event ∷ rest) = receipt_if (place p (suc n)) event.kind ++ receipts_from p (suc n) rest

-- those of the processes from p on
abbrev pub all_receipts : (p : ℕ) → Computation → List Place
all_receipts p [] = []
all_receipts p (events ∷ rest) = receipts_from p 0 events ++ all_receipts (suc p) rest
