-- Small computations on which the definitions are tried.
use Rattle.std.specs.Prelude.{◌≡◌, ℕ, true, List, [], ◌∷◌, ℤ, pos}
use Rattle.def_model.specs.Events.{Kind, Local, Send, Receive, Event, Computation, place}
use Rattle.def_model.specs.Messages.{Version}
use Rattle.def_model.specs.Order.{HappenedBefore, IsWellFormed, IsReportedCycle}
use Rattle.def_model.specs.Cuts.{IsConsistent}
use Rattle.def_model.specs.Predicates.{Initial, Predicate, Compare, And, Variable, Number, Equals, Plus, satisfies}
use Rattle.def_model.specs.Observations.{Possibly, IsAvoiding}
use Rattle.def_model.specs.Answers.{IsFirstSatisfying, IsLeastFree}

abbrev pub event : Kind → List (ℕ × ℤ) → Event
event kind sets = record { kind = kind; sets = sets }

-- two processes with one variable each, 0 at first
abbrev pub zeros : Initial
zeros = (pos 0 ∷ []) ∷ (pos 0 ∷ []) ∷ []

-- each sets its variable to 1 and then to 0
abbrev pub up_and_down : Computation
up_and_down =
    (event Local ((0, pos 1) ∷ []) ∷ event Local ((0, pos 0) ∷ []) ∷ [])
    ∷ (event Local ((0, pos 1) ∷ []) ∷ event Local ((0, pos 0) ∷ []) ∷ []) ∷ []

-- the first sends and sets its variable to 1, the second receives and sets its own to 1
abbrev pub one_message : Computation
one_message = (event (Send (109 ∷ [])) ((0, pos 1) ∷ []) ∷ []) ∷ (event (Receive (109 ∷ [])) ((0, pos 1) ∷ []) ∷ [])
    ∷ []

abbrev pub equals : ℕ → ℕ → Predicate
equals p n = Compare ((Plus, Variable p 0) ∷ []) Equals ((Plus, Number n) ∷ [])

-- both variables are 1
abbrev pub both : Predicate
both = And (equals 0 1) (equals 1 1)

-- the second variable is 1 while the first is 0
abbrev pub skew : Predicate
skew = And (equals 0 0) (equals 1 1)

-- With no messages both ones can be seen together, first at 1,1.
abbrev pub BothAtOnce : Type 0
BothAtOnce = IsFirstSatisfying up_and_down (satisfies zeros up_and_down both) (1 ∷ 1 ∷ [])

-- The send happened before its receipt; so the cut with the receipt alone is none, though its state would satisfy.
abbrev pub NoReceiptAlone : Type 0
NoReceiptAlone =
    HappenedBefore one_message (place 0 1) (place 1 1) × (¬ IsConsistent one_message (0 ∷ 1 ∷ []))
    × (satisfies zeros one_message skew (0 ∷ 1 ∷ []) ≡ true)
    × (¬ Possibly one_message (satisfies zeros one_message skew))

-- That the first variable is 1 can be avoided up to two events, but not up to three.
abbrev pub AvoidedUpToTwo : Type 0
AvoidedUpToTwo =
    IsAvoiding up_and_down (satisfies zeros up_and_down (equals 0 1)) 2 (0 ∷ 2 ∷ [])
    × IsLeastFree up_and_down (satisfies zeros up_and_down (equals 0 1)) 3

-- each receives what the other sends afterwards
abbrev pub crossed : Computation
crossed =
    (event (Receive (107 ∷ [])) [] ∷ event (Send (109 ∷ [])) [] ∷ [])
    ∷ (event (Receive (109 ∷ [])) [] ∷ event (Send (107 ∷ [])) [] ∷ []) ∷ []

-- One message makes no cycle, and crossed messages make one, of the two receipts.
abbrev pub CycleOfReceipts : Type 0
CycleOfReceipts =
    ((version : Version) → IsWellFormed version one_message)
    × IsReportedCycle crossed (place 0 1 ∷ place 1 1 ∷ [])
