-- A small run on which the definitions are tried: what leads from one process to another comes by a third, of which the
-- predicate sees nothing.
use Rattle.std.specs.Prelude.{◌≡◌, ℕ, zero, suc, Bool, true, [], ◌∷◌, pos}
use Rattle.def_model.specs.Events.{Local, Send, Receive, Computation, Place, place}
use Rattle.def_model.specs.Cuts.{empty_cut, full_cut}
use Rattle.def_model.specs.Examples.{equals, event, one_message, skew, zeros}
use Rattle.def_model.specs.Predicates.{Predicate, And, Recorded, satisfies, test_of}
use Rattle.def_long.specs.Windows.{whole}
use Rattle.def_long.specs.Kept.{IsDownSet}
use Rattle.def_long.specs.Extensions.{is_among}
use Rattle.def_long.specs.Boundaries.{IsBoundary}
use Rattle.def_long.specs.Views.{OthersAreUnseen}
use Rattle.def_long.specs.Reductions.{IsReduction}
use Rattle.def_long.specs.Renamed.{Names, renamed}
use Rattle.def_long.specs.MadeRuns.{IsMadeOf}

-- The first process sets its variable to 1 and sends; the second receives that and sends another message; the third
-- receives that, and then sets its own variable to 1.
abbrev pub relayed : Computation
relayed =
    (event (Send (109 ∷ [])) ((0, pos 1) ∷ []) ∷ [])
    ∷ (event (Receive (109 ∷ [])) [] ∷ event (Send (110 ∷ [])) [] ∷ [])
    ∷ (event (Receive (110 ∷ [])) [] ∷ event Local ((0, pos 1) ∷ []) ∷ []) ∷ []

-- with one variable each, 0 at first
abbrev pub relay : Recorded
relay = record { initial = (pos 0 ∷ []) ∷ (pos 0 ∷ []) ∷ (pos 0 ∷ []) ∷ []; events = relayed }

-- the third variable is 1 while the first is 0
abbrev pub early : Predicate
early = And (equals 0 0) (equals 2 1)

-- the two events that set a variable
abbrev pub setting : Place → Bool
setting = is_among (place 0 1 ∷ place 2 2 ∷ [])

-- The predicate sees no others.
abbrev pub SettingIsSeen : Type 0
SettingIsSeen = OthersAreUnseen relay early setting

-- The second of them isn't a down-set by itself: the first happened before it, by the second process.
abbrev pub OrderIsKept : Type 0
OrderIsKept = ¬ IsDownSet (whole relayed) setting (is_among (place 2 2 ∷ []))

-- The run falls into windows at the cut with the first event alone.
abbrev pub FirstIsBoundary : Type 0
FirstIsBoundary = IsBoundary (whole relayed) setting (1 ∷ 0 ∷ 0 ∷ [])

-- The run of two processes with one message is a reduction of it.
abbrev pub RelayIsReduced : Type 0
RelayIsReduced =
    IsReduction (whole relayed) setting (test_of relay early) (whole one_message) (λ e. true)
    (satisfies zeros one_message skew)

-- It is made of it, with what the third process sets in the second one.
abbrev pub place_of_process : ℕ → ℕ
place_of_process zero = 0
place_of_process (suc zero) = 2
place_of_process (suc (suc zero)) = 1
place_of_process (suc (suc (suc p))) = suc (suc (suc p))

abbrev pub names_of_two : Names
names_of_two = record { process = place_of_process; variable = λ p v. v }

abbrev pub RelayIsMade : Type 0
RelayIsMade =
    IsMadeOf relay (empty_cut relayed) (full_cut relayed) setting early
    (record { initial = zeros; events = one_message }) (λ e. true) names_of_two
    × (renamed names_of_two early ≡ skew)
