-- Small runs on which the definitions are tried: two that have other events and one order, and one of three processes
-- of which one isn't seen.
use Rattle.std.specs.Prelude.{List, [], ◌∷◌, pos}
use Rattle.def_model.specs.Events.{Local, Send, Receive, Computation}
use Rattle.def_model.specs.Examples.{event, one_message, zeros}
use Rattle.def_model.specs.Predicates.{Recorded}
use Rattle.def_long.specs.Examples.{relay}
use Rattle.def_orders.specs.Laws.{HaveOneOrder}
use Rattle.def_orders.specs.Orders.{ProcessOrder}
use Rattle.def_orders.specs.Selections.{HaveOnePart}

-- The first process does something else before it sends, and the second only receives before it sets its variable.
abbrev pub with_others : Computation
with_others =
    (event Local [] ∷ event (Send (109 ∷ [])) ((0, pos 1) ∷ []) ∷ [])
    ∷ (event (Receive (109 ∷ [])) [] ∷ event Local ((0, pos 1) ∷ []) ∷ []) ∷ []

-- with one variable each, 0 at first
abbrev pub from_zeros : Computation → Recorded
from_zeros c = record { initial = zeros; events = c }

-- Each process sets its variable to 1, and the event of the first one happened before that of the second.
abbrev pub one_after_one : List ProcessOrder
one_after_one =
    record { values = pos 0 ∷ pos 1 ∷ []; known = 1 ∷ 0 ∷ [] }
    ∷ record { values = pos 0 ∷ pos 1 ∷ []; known = 1 ∷ 1 ∷ [] } ∷ []

-- That is seen of this run, and of the run of the two events alone.
abbrev pub OthersAreNotSeen : Type 0
OthersAreNotSeen =
    HaveOneOrder (from_zeros one_message) (from_zeros with_others) ((0 ∷ []) ∷ (0 ∷ []) ∷ []) one_after_one

-- The same of a run in which the message goes by a process in between, of which nothing is seen.
abbrev pub one_after_one_of_three : List ProcessOrder
one_after_one_of_three =
    record { values = pos 0 ∷ pos 1 ∷ []; known = 1 ∷ 0 ∷ 0 ∷ [] } ∷ record { values = []; known = [] }
    ∷ record { values = pos 0 ∷ pos 1 ∷ []; known = 1 ∷ 0 ∷ 1 ∷ [] } ∷ []

-- The run of the two events has the two processes of it that are seen.
abbrev pub MiddleIsNotSeen : Type 0
MiddleIsNotSeen =
    HaveOnePart relay (from_zeros one_message) (0 ∷ 2 ∷ []) ((0 ∷ []) ∷ [] ∷ (0 ∷ []) ∷ []) one_after_one_of_three
    one_after_one
