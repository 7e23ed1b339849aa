-- The laws of the model, each stated for every computation. `test` says whether a cut satisfies.
use Rattle.std.specs.Prelude.{◌≡◌, ◌≢◌, ℕ, ◌+◌, ◌<◌, ◌≤◌, Bool, true, false, not, IsTrue, ◌↔◌, List, [], ◌∷◌, filter, sum, Contains, slice_index, length}
use Rattle.def_model.specs.Events.{Computation, Place, place, IsEvent, Linked}
use Rattle.def_model.specs.Messages.{IsMessage, Version, Fault, IsReported, HasOneSender}
use Rattle.def_model.specs.Order.{LeadsTo, HappenedBefore, IsClock, HasNoCycle, IsStuck, IsFirstStuck, IsReportedCycle}
use Rattle.def_model.specs.Cuts.{IsCut, FitsProcesses, IsConsistent, IsOfLevel, AddsEvent, AddsPlace, IsNextOf, counts_of, cut_of, total, empty_cut, full_cut, one_less}
use Rattle.def_model.specs.Lattice.{IsWithin, meet, join}
use Rattle.def_model.specs.Walks.{NoneBelow}
use Rattle.def_model.specs.Observations.{IsObservation, Possibly, PossiblyObserved, Definitely, IsAvoiding, HasNoAvoiding}
use Rattle.def_model.specs.Answers.{LexBelow, IsListOf, PossiblyAnswer, PossiblyYes, PossiblyNo, DefinitelyAnswer, DefinitelyYes, IsPossiblyAnswer, IsDefinitelyAnswer, IsPrintedPath, IsAvoidingObservation}

-- What leads to an event happened before it.
abbrev pub StepHappens : Type 0
StepHappens = (c : Computation) (e f : Place) → LeadsTo c e f → HappenedBefore c e f

-- What happened before an event happened before each that the event happened before.
abbrev pub HappenedOnward : Type 0
HappenedOnward =
    (c : Computation) (e f g : Place) → HappenedBefore c e f → HappenedBefore c f g → HappenedBefore c e g

-- Each relation that holds of the steps and goes onward holds of what happened before; a relation is a test here.
abbrev pub HappenedIsLeast : Type 0
HappenedIsLeast =
    (c : Computation) (test : Place → Place → Bool) → ((e f : Place) → LeadsTo c e f → IsTrue (test e f))
    → ((e f g : Place) → IsTrue (test e f) → IsTrue (test f g) → IsTrue (test e g)) → (e f : Place)
    → HappenedBefore c e f → IsTrue (test e f)

-- A cut's counts are consistent, and its events are those that its counts include.
abbrev pub CountsOfCut : Type 0
CountsOfCut =
    (c : Computation) (cut : Place → Bool) → IsCut c cut → IsConsistent c (counts_of c cut)
    × ((e : Place) → cut_of (counts_of c cut) e ≡ cut e)

-- Consistent counts are the counts of the cut of the events that they include.
abbrev pub CutOfCounts : Type 0
CutOfCounts =
    (c : Computation) (counts : List ℕ) → IsConsistent c counts → IsCut c (cut_of counts)
    × (counts_of c (cut_of counts) ≡ counts)

-- One event more is one count greater by 1.
abbrev pub OneEventMore : Type 0
OneEventMore =
    (c : Computation) (old new : List ℕ) → IsConsistent c old → IsConsistent c new → AddsEvent old new
    ↔ AddsPlace (cut_of old) (cut_of new)

-- From a cut that isn't empty the last event of some process can be undone.
abbrev pub CanUndo : Type 0
CanUndo =
    (c : Computation) → HasNoCycle c → (cut : List ℕ) → IsConsistent c cut → 0 < sum cut
    → (p : ℕ) × (0 < slice_index cut p) × IsConsistent c (one_less cut p)

-- Each level has a list of its cuts, and one of its avoiding cuts.
abbrev pub LevelHasList : Type 0
LevelHasList = (c : Computation) (k : ℕ) → (cuts : List (List ℕ)) × IsListOf (IsOfLevel c k) cuts

abbrev pub AvoidingHasList : Type 0
AvoidingHasList =
    (c : Computation) (test : List ℕ → Bool) (k : ℕ) → (cuts : List (List ℕ)) × IsListOf (IsAvoiding c test k) cuts

-- The list of level k leads to that of level k + 1.
abbrev pub NextLevel : Type 0
NextLevel =
    (c : Computation) → HasNoCycle c → (k : ℕ) (cuts next : List (List ℕ)) → IsListOf (IsOfLevel c k) cuts
    → IsListOf (IsNextOf c cuts) next → IsListOf (IsOfLevel c (k + 1)) next

-- The avoiding cuts of level k + 1 are those next to an avoiding cut of level k that don't satisfy.
abbrev pub NextAvoiding : Type 0
NextAvoiding =
    (c : Computation) (test : List ℕ → Bool) (k : ℕ) (cut : List ℕ) → IsAvoiding c test (k + 1) cut
    ↔ (IsConsistent c cut × (test cut ≡ false) × ((old : List ℕ) × IsAvoiding c test k old × AddsEvent old cut))

-- The list of level 0 has the empty cut alone, and no level is above that of all events.
abbrev pub FirstLevel : Type 0
FirstLevel = (c : Computation) → IsListOf (IsOfLevel c 0) (empty_cut c ∷ [])

abbrev pub LastLevel : Type 0
LastLevel = (c : Computation) (k : ℕ) (cut : List ℕ) → IsOfLevel c k cut → k ≤ total c

-- The one cut of level 0 is the empty one, and the one cut of the level of all events is the full one.
abbrev pub EmptyLevel : Type 0
EmptyLevel = (c : Computation) (cut : List ℕ) → IsOfLevel c 0 cut → cut ≡ empty_cut c

abbrev pub FullLevel : Type 0
FullLevel = (c : Computation) (cut : List ℕ) → IsOfLevel c (total c) cut → cut ≡ full_cut c

-- An avoiding cut of level k is a cut of level k.
abbrev pub AvoidingLevel : Type 0
AvoidingLevel =
    (c : Computation) (test : List ℕ → Bool) (k : ℕ) (cut : List ℕ) → IsAvoiding c test k cut → IsOfLevel c k cut

-- The list of the avoiding cuts of level 0, and that of level k + 1 from that of level k: what satisfies is taken out.
abbrev pub FirstAvoidingList : Type 0
FirstAvoidingList =
    (c : Computation) (test : List ℕ → Bool)
    → IsListOf (IsAvoiding c test 0) (filter (λ cut. not (test cut)) (empty_cut c ∷ []))

abbrev pub NextAvoidingList : Type 0
NextAvoidingList =
    (c : Computation) (test : List ℕ → Bool) (k : ℕ) (cuts next : List (List ℕ)) → IsListOf (IsAvoiding c test k) cuts
    → IsListOf (IsNextOf c cuts) next → IsListOf (IsAvoiding c test (k + 1)) (filter (λ cut. not (test cut)) next)

-- If some level up to that of all events has no avoiding cut, every observation has a satisfying cut.
abbrev pub FreeLevelDecides : Type 0
FreeLevelDecides =
    (c : Computation) (test : List ℕ → Bool) (k : ℕ) → k ≤ total c → HasNoAvoiding c test k → Definitely c test

-- If the level of all events has an avoiding cut, a path is found backward.
abbrev pub PathIsFound : Type 0
PathIsFound =
    (c : Computation) (test : List ℕ → Bool) (cut : List ℕ) → IsAvoiding c test (total c) cut → (path : List ℕ)
    × IsPrintedPath c test path

-- That path is an observation, and has no satisfying cut.
abbrev pub PathAvoids : Type 0
PathAvoids =
    (c : Computation) (test : List ℕ → Bool) (path : List ℕ) → IsPrintedPath c test path
    → IsAvoidingObservation c test path

-- Every cut lies on an observation.
abbrev pub EveryCutIsObserved : Type 0
EveryCutIsObserved =
    (c : Computation) → HasNoCycle c → (cut : List ℕ) → IsConsistent c cut → (cuts : List (List ℕ))
    × IsObservation c cuts × Contains cuts cut

-- The two wordings of Possibly agree.
abbrev pub PossiblyBothWays : Type 0
PossiblyBothWays =
    (c : Computation) → HasNoCycle c → (test : List ℕ → Bool) → Possibly c test ↔ PossiblyObserved c test

-- Definitely yes never stands beside Possibly no, whatever the widths.
abbrev pub NoYesBesideNo : Type 0
NoYesBesideNo =
    (c : Computation) → HasNoCycle c → (test : List ℕ → Bool) (v w level : ℕ)
    → IsDefinitelyAnswer c test w (DefinitelyYes level) → ¬ IsPossiblyAnswer c test v PossiblyNo

-- The cut printed has at most as many events as the level printed.
abbrev pub CutBelowLevel : Type 0
CutBelowLevel =
    (c : Computation) → HasNoCycle c → (test : List ℕ → Bool) (v w level : ℕ) (cut : List ℕ)
    → IsPossiblyAnswer c test v (PossiblyYes cut) → IsDefinitelyAnswer c test w (DefinitelyYes level)
    → sum cut ≤ level

-- There is one answer at most.
abbrev pub OnePossiblyAnswer : Type 0
OnePossiblyAnswer =
    (c : Computation) (test : List ℕ → Bool) (w : ℕ) (a b : PossiblyAnswer) → IsPossiblyAnswer c test w a
    → IsPossiblyAnswer c test w b → a ≡ b

abbrev pub OneDefinitelyAnswer : Type 0
OneDefinitelyAnswer =
    (c : Computation) (test : List ℕ → Bool) (w : ℕ) (a b : DefinitelyAnswer) → IsDefinitelyAnswer c test w a
    → IsDefinitelyAnswer c test w b → a ≡ b

-- Ascending lists of the same cuts are equal: so there is one list of a level, and of its avoiding cuts.
abbrev pub OneList : Type 0
OneList =
    (xs ys : List (List ℕ)) → Linked LexBelow xs → Linked LexBelow ys
    → ((cut : List ℕ) → Contains xs cut ↔ Contains ys cut) → xs ≡ ys

-- There is one fault that is reported at most, one number that is a clock's, and one cycle.
abbrev pub OneFault : Type 0
OneFault =
    (version : Version) (c : Computation) (a b : Fault) → IsReported version c a → IsReported version c b → a ≡ b

abbrev pub OneClock : Type 0
OneClock = (c : Computation) (e : Place) (q m n : ℕ) → IsClock c e q m → IsClock c e q n → m ≡ n

abbrev pub OneCycle : Type 0
OneCycle =
    (c : Computation) (a b : List Place) → HasOneSender c → IsReportedCycle c a → IsReportedCycle c b → a ≡ b

-- Counts are consistent exactly if no last event of a process has a clock above them.
abbrev pub ClocksDecide : Type 0
ClocksDecide =
    (c : Computation) (clock : Place → ℕ → ℕ) → ((e : Place) (q : ℕ) → IsEvent c e → IsClock c e q (clock e q))
    → (counts : List ℕ) → FitsProcesses c counts → IsConsistent c counts
    ↔ ((p q : ℕ) → 0 < slice_index counts p → clock (place p (slice_index counts p)) q ≤ slice_index counts q)

-- An event is stuck exactly if a stuck one leads to it.
abbrev pub StuckStep : Type 0
StuckStep = (c : Computation) (e : Place) → IsStuck c e ↔ ((d : Place) × LeadsTo c d e × IsStuck c d)

-- The first stuck event of a process is a receipt, and its send is stuck.
abbrev pub StuckReceipt : Type 0
StuckReceipt =
    (c : Computation) (e : Place) → IsFirstStuck c e → (send : Place) × IsMessage c send e × IsStuck c send

-- If events are put in an order, each after all that lead to it, and each that is left has one left that leads to
-- it, those left are the stuck ones.
abbrev pub LeftAreStuck : Type 0
LeftAreStuck =
    (c : Computation) (is_left : Place → Bool) (rank : Place → ℕ)
    → ((e : Place) → is_left e ≡ true → (d : Place) × LeadsTo c d e × (is_left d ≡ true))
    → ((d e : Place) → LeadsTo c d e → is_left e ≡ false → (is_left d ≡ false) × (rank d < rank e)) → (e : Place)
    → (is_left e ≡ true) ↔ IsStuck c e

-- No event is stuck exactly if none happened before itself.
abbrev pub NoneStuck : Type 0
NoneStuck = (c : Computation) → HasNoCycle c ↔ ((e : Place) → ¬ IsStuck c e)

-- The countwise least and greatest of two consistent cuts are consistent.
abbrev pub MeetAndJoin : Type 0
MeetAndJoin =
    (c : Computation) (a b : List ℕ) → IsConsistent c a → IsConsistent c b → IsConsistent c (meet a b)
    × IsConsistent c (join a b)

-- Where a consistent cut is within another and differs, some event of the greater one outside it can be undone.
abbrev pub StepDown : Type 0
StepDown =
    (c : Computation) → HasNoCycle c → (a b : List ℕ) → IsConsistent c a → IsConsistent c b → IsWithin a b → a ≢ b
    → (p : ℕ) × (p < length b) × (slice_index a p < slice_index b p) × IsConsistent c (one_less b p)

-- So each level between the two has a cut between them.
abbrev pub CutBetween : Type 0
CutBetween =
    (c : Computation) → HasNoCycle c → (a b : List ℕ) → IsConsistent c a → IsConsistent c b → IsWithin a b → (k : ℕ)
    → sum a ≤ k → k ≤ sum b → (cut : List ℕ) × IsOfLevel c k cut × IsWithin a cut × IsWithin cut b

-- Where no cut of a level up to k satisfies, all cuts of level k avoid.
abbrev pub AllAvoid : Type 0
AllAvoid =
    (c : Computation) → HasNoCycle c → (test : List ℕ → Bool) (k : ℕ) → NoneBelow c test (k + 1) → (cut : List ℕ)
    → IsAvoiding c test k cut ↔ IsOfLevel c k cut

-- Where none below level k does, those of level k avoid that don't satisfy.
abbrev pub AvoidAtFirstHit : Type 0
AvoidAtFirstHit =
    (c : Computation) → HasNoCycle c → (test : List ℕ → Bool) (k : ℕ) → NoneBelow c test k → (cut : List ℕ)
    → IsAvoiding c test k cut ↔ (IsOfLevel c k cut × (test cut ≡ false))

-- A cut of level k + 1 avoids exactly where it doesn't satisfy, and some process's last event can be undone so that an
-- avoiding cut of level k is left.
abbrev pub AvoidByUndoing : Type 0
AvoidByUndoing =
    (c : Computation) (test : List ℕ → Bool) (k : ℕ) (cut : List ℕ) → IsAvoiding c test (k + 1) cut
    ↔ (IsOfLevel c (k + 1) cut × (test cut ≡ false)
    × ((p : ℕ) × (p < length cut) × (0 < slice_index cut p) × IsAvoiding c test k (one_less cut p)))
