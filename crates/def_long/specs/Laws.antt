-- The laws of long runs, each stated for every run, of any number of processes and events. `test` says whether a cut
-- satisfies, and `kept` whether the event at a place is kept.
use Rattle.std.specs.Prelude.{◌≡◌, ◌↔◌, ◌⊎◌, ℕ, Bool, List, [], ◌∷◌, ◌++◌, Contains, All}
use Rattle.def_model.specs.Events.{Computation, Place, Linked}
use Rattle.def_model.specs.Order.{HasNoCycle}
use Rattle.def_model.specs.Lattice.{IsWithin}
use Rattle.def_model.specs.Cuts.{Includes, empty_cut, full_cut}
use Rattle.def_model.specs.Observations.{IsWalk, HasNoSatisfying, Possibly, Definitely}
use Rattle.def_model.specs.Predicates.{Predicate, Recorded, test_of}
use Rattle.def_long.specs.Windows.{Window, window, whole, IsWindow, IsCutIn, PossiblyIn, DefinitelyIn}
use Rattle.def_long.specs.Kept.{IsKept, KeptDecide, AreKeptIn, IsDownSet, IsLeastWith, DownSetSatisfies}
use Rattle.def_long.specs.Extensions.{IsExtension, PassesSatisfying, Follows}
use Rattle.def_long.specs.Boundaries.{IsBoundary, OfSomePart}
use Rattle.def_long.specs.Views.{AreSeen, OthersAreUnseen}
use Rattle.def_long.specs.Reductions.{HaveSameEvents, IsReduction}
use Rattle.def_long.specs.Renamed.{AreEquallyFar, KeepProcesses, Names, SeesTheSameIn, renamed}
use Rattle.def_long.specs.MadeMessages.{KeepsOrderByMessages}
use Rattle.def_long.specs.MadeRuns.{AreMadeOf, IsMadeOf, MadeRun, made_test}

-- A run in which no event happened before itself is a window, and has the answers of that window.
abbrev pub RunIsWindow : Type 0
RunIsWindow = (c : Computation) → HasNoCycle c → IsWindow (whole c)

abbrev pub PossiblyInWhole : Type 0
PossiblyInWhole = (c : Computation) (test : List ℕ → Bool) → Possibly c test ↔ PossiblyIn (whole c) test

abbrev pub DefinitelyInWhole : Type 0
DefinitelyInWhole = (c : Computation) (test : List ℕ → Bool) → Definitely c test ↔ DefinitelyIn (whole c) test

-- The kept events of a cut are a down-set.
abbrev pub CutHasDownSet : Type 0
CutHasDownSet =
    (w : Window) (kept : Place → Bool) (cut : List ℕ) (part : Place → Bool) → IsCutIn w cut
    → AreKeptIn w kept cut part → IsDownSet w kept part

-- Each down-set has a least cut, and that has no other kept events.
abbrev pub DownSetHasCut : Type 0
DownSetHasCut =
    (w : Window) → IsWindow w → (kept part : Place → Bool) → IsDownSet w kept part → (cut : List ℕ)
    × IsLeastWith w part cut × AreKeptIn w kept cut part

-- If the kept events decide, cuts with the same ones have the same truth.
abbrev pub OneTruth : Type 0
OneTruth =
    (w : Window) → IsWindow w → (kept : Place → Bool) (test : List ℕ → Bool) → KeptDecide w kept test
    → (a b : List ℕ) (part : Place → Bool) → IsCutIn w a → IsCutIn w b → AreKeptIn w kept a part
    → AreKeptIn w kept b part → test a ≡ test b

-- So some cut satisfies exactly if some down-set does.
abbrev pub PossiblyByDownSets : Type 0
PossiblyByDownSets =
    (w : Window) → IsWindow w → (kept : Place → Bool) (test : List ℕ → Bool) → KeptDecide w kept test
    → PossiblyIn w test ↔ ((part : Place → Bool) × IsDownSet w kept part × DownSetSatisfies w test part)

-- Each walk from the window's first cut to its last one follows a linear extension, and each linear extension is
-- followed by such a walk.
abbrev pub WalkHasExtension : Type 0
WalkHasExtension =
    (w : Window) → IsWindow w → (kept : Place → Bool) (cuts : List (List ℕ)) → IsWalk w.run w.from cuts w.to
    → (order : List Place) × IsExtension w kept order × Follows w kept cuts order

abbrev pub ExtensionHasWalk : Type 0
ExtensionHasWalk =
    (w : Window) → IsWindow w → (kept : Place → Bool) (order : List Place) → IsExtension w kept order
    → (cuts : List (List ℕ)) × IsWalk w.run w.from cuts w.to × Follows w kept cuts order

-- So every walk has a satisfying cut exactly if every linear extension passes through a satisfying down-set.
abbrev pub DefinitelyByExtensions : Type 0
DefinitelyByExtensions =
    (w : Window) → IsWindow w → (kept : Place → Bool) (test : List ℕ → Bool) → KeptDecide w kept test
    → DefinitelyIn w test ↔ ((order : List Place) → IsExtension w kept order → PassesSatisfying w test order)

-- The kept events decide if the predicate sees no others.
abbrev pub SeenDecide : Type 0
SeenDecide =
    (r : Recorded) (predicate : Predicate) (kept : Place → Bool) (from to : List ℕ)
    → OthersAreUnseen r predicate kept → KeptDecide (window r.events from to) kept (test_of r predicate)

-- The seen events are a set, and the predicate sees no others.
abbrev pub SeenAreASet : Type 0
SeenAreASet =
    (r : Recorded) (predicate : Predicate) → (kept : Place → Bool) × AreSeen r predicate kept
    × OthersAreUnseen r predicate kept

-- So the run has an answer exactly if its kept events have it: Possibly by their down-sets, Definitely by the orders in
-- which they can have happened.
abbrev pub PossiblyOfSeen : Type 0
PossiblyOfSeen =
    (r : Recorded) (predicate : Predicate) (kept : Place → Bool) → HasNoCycle r.events
    → OthersAreUnseen r predicate kept → Possibly r.events (test_of r predicate)
    ↔ ((part : Place → Bool) × IsDownSet (whole r.events) kept part
    × DownSetSatisfies (whole r.events) (test_of r predicate) part)

abbrev pub DefinitelyOfSeen : Type 0
DefinitelyOfSeen =
    (r : Recorded) (predicate : Predicate) (kept : Place → Bool) → HasNoCycle r.events
    → OthersAreUnseen r predicate kept → Definitely r.events (test_of r predicate)
    ↔ ((order : List Place) → IsExtension (whole r.events) kept order
    → PassesSatisfying (whole r.events) (test_of r predicate) order)

-- Every walk passes through a cut that has the kept events of a boundary.
abbrev pub BoundaryIsPassed : Type 0
BoundaryIsPassed =
    (w : Window) → IsWindow w → (kept : Place → Bool) (boundary : List ℕ) → IsBoundary w kept boundary
    → (cuts : List (List ℕ)) → IsWalk w.run w.from cuts w.to → (part : Place → Bool) → AreKeptIn w kept boundary part
    → (cut : List ℕ) × Contains cuts cut × AreKeptIn w kept cut part

-- So a window has an answer exactly if its part up to the boundary or its part from there on has it.
abbrev pub PossiblyByParts : Type 0
PossiblyByParts =
    (w : Window) → IsWindow w → (kept : Place → Bool) (test : List ℕ → Bool) → KeptDecide w kept test
    → (boundary : List ℕ) → IsBoundary w kept boundary → PossiblyIn w test
    ↔ (PossiblyIn (window w.run w.from boundary) test ⊎ PossiblyIn (window w.run boundary w.to) test)

abbrev pub DefinitelyByParts : Type 0
DefinitelyByParts =
    (w : Window) → IsWindow w → (kept : Place → Bool) (test : List ℕ → Bool) → KeptDecide w kept test
    → (boundary : List ℕ) → IsBoundary w kept boundary → DefinitelyIn w test
    ↔ (DefinitelyIn (window w.run w.from boundary) test ⊎ DefinitelyIn (window w.run boundary w.to) test)

-- At any cut, with no boundary, two walks of which none has a satisfying cut make one, the second after the first.
abbrev pub AvoidingByParts : Type 0
AvoidingByParts =
    (w : Window) (test : List ℕ → Bool) (cut : List ℕ) (first second : List (List ℕ)) → IsWalk w.run w.from first cut
    → HasNoSatisfying test first → IsWalk w.run cut second w.to → HasNoSatisfying test second
    → (cuts : List (List ℕ)) × IsWalk w.run w.from cuts w.to × HasNoSatisfying test cuts

-- And a run that falls into windows at several boundaries has an answer exactly if some window has it.
abbrev pub PossiblyOfRun : Type 0
PossiblyOfRun =
    (c : Computation) → HasNoCycle c → (kept : Place → Bool) (test : List ℕ → Bool) → KeptDecide (whole c) kept test
    → (boundaries : List (List ℕ)) → All (IsBoundary (whole c) kept) boundaries → Linked IsWithin boundaries
    → Possibly c test ↔ OfSomePart (λ w. PossiblyIn w test) c boundaries

abbrev pub DefinitelyOfRun : Type 0
DefinitelyOfRun =
    (c : Computation) → HasNoCycle c → (kept : Place → Bool) (test : List ℕ → Bool) → KeptDecide (whole c) kept test
    → (boundaries : List (List ℕ)) → All (IsBoundary (whole c) kept) boundaries → Linked IsWithin boundaries
    → Definitely c test ↔ OfSomePart (λ w. DefinitelyIn w test) c boundaries

-- A reduction has the answers of what is reduced.
abbrev pub PossiblyOfReduction : Type 0
PossiblyOfReduction =
    (w w' : Window) (kept kept' : Place → Bool) (test test' : List ℕ → Bool) → IsWindow w → IsWindow w'
    → IsReduction w kept test w' kept' test' → PossiblyIn w test ↔ PossiblyIn w' test'

abbrev pub DefinitelyOfReduction : Type 0
DefinitelyOfReduction =
    (w w' : Window) (kept kept' : Place → Bool) (test test' : List ℕ → Bool) → IsWindow w → IsWindow w'
    → IsReduction w kept test w' kept' test' → DefinitelyIn w test ↔ DefinitelyIn w' test'

-- A cut in the reduction has the truth of one with the same kept events in what is reduced, and a walk through the
-- reduction that has no satisfying cut leads to one through what is reduced.
abbrev pub CutOfReduction : Type 0
CutOfReduction =
    (w w' : Window) (kept kept' : Place → Bool) (test test' : List ℕ → Bool) → IsWindow w → IsWindow w'
    → (same : IsReduction w kept test w' kept' test') → (cut' : List ℕ) → IsCutIn w' cut' → (cut : List ℕ)
    × IsCutIn w cut × ((e : Place) → IsKept w' kept' e → Includes cut' e ↔ Includes cut (same.events.origin e))
    × (test cut ≡ test' cut')

abbrev pub AvoidingOfReduction : Type 0
AvoidingOfReduction =
    (w w' : Window) (kept kept' : Place → Bool) (test test' : List ℕ → Bool) → IsWindow w → IsWindow w'
    → IsReduction w kept test w' kept' test' → (cuts' : List (List ℕ)) → IsWalk w'.run w'.from cuts' w'.to
    → HasNoSatisfying test' cuts' → (cuts : List (List ℕ)) × IsWalk w.run w.from cuts w.to × HasNoSatisfying test cuts

-- A window of another recording is a reduction if it has the same events, each at the place of its process, and the
-- renamed predicate sees the same of each process wherever both have come equally far.
abbrev pub SameViewsReduce : Type 0
SameViewsReduce =
    (r r' : Recorded) (predicate : Predicate) (names : Names) (from to from' to' : List ℕ) (kept kept' : Place → Bool)
    → (events : HaveSameEvents (window r.events from to) kept (window r'.events from' to') kept')
    → KeepProcesses (window r.events from to) kept names events.image
    → ((p m n : ℕ)
    → AreEquallyFar (window r.events from to) kept (window r'.events from' to') names events.image p m n
    → SeesTheSameIn r m r' n names p predicate)
    → IsReduction (window r.events from to) kept (test_of r predicate) (window r'.events from' to') kept'
    (test_of r' (renamed names predicate))

-- Messages to neighbors keep the order, so the windows have the same events, with these images and origins.
abbrev pub MessagesKeepOrder : Type 0
MessagesKeepOrder =
    (w w' : Window) (kept kept' : Place → Bool) → IsWindow w → IsWindow w'
    → (made : KeepsOrderByMessages w kept w' kept') → (events : HaveSameEvents w kept w' kept')
    × (events.image ≡ made.image) × (events.origin ≡ made.origin)

-- In a run with such messages no event happened before itself.
abbrev pub MessagesMakeNoCycle : Type 0
MessagesMakeNoCycle =
    (w : Window) (c : Computation) (kept kept' : Place → Bool) → IsWindow w
    → KeepsOrderByMessages w kept (whole c) kept' → HasNoCycle c

-- A recorded run that is made of a window is a reduction of it, and has its answers.
abbrev pub MadeRunReduces : Type 0
MadeRunReduces =
    (r r' : Recorded) (from to : List ℕ) (kept kept' : Place → Bool) (predicate : Predicate) (names : Names)
    → IsWindow (window r.events from to) → IsMadeOf r from to kept predicate r' kept' names
    → IsReduction (window r.events from to) kept (test_of r predicate) (whole r'.events) kept'
    (test_of r' (renamed names predicate))

abbrev pub PossiblyOfMadeRun : Type 0
PossiblyOfMadeRun =
    (r r' : Recorded) (from to : List ℕ) (kept kept' : Place → Bool) (predicate : Predicate) (names : Names)
    → IsWindow (window r.events from to) → IsMadeOf r from to kept predicate r' kept' names
    → PossiblyIn (window r.events from to) (test_of r predicate)
    ↔ Possibly r'.events (test_of r' (renamed names predicate))

abbrev pub DefinitelyOfMadeRun : Type 0
DefinitelyOfMadeRun =
    (r r' : Recorded) (from to : List ℕ) (kept kept' : Place → Bool) (predicate : Predicate) (names : Names)
    → IsWindow (window r.events from to) → IsMadeOf r from to kept predicate r' kept' names
    → DefinitelyIn (window r.events from to) (test_of r predicate)
    ↔ Definitely r'.events (test_of r' (renamed names predicate))

-- If a run is made of each window between boundaries, the run has an answer exactly if one of these has it.
abbrev pub PossiblyOfMadeRuns : Type 0
PossiblyOfMadeRuns =
    (r : Recorded) → HasNoCycle r.events → (kept : Place → Bool) (predicate : Predicate)
    (boundaries : List (List ℕ)) (runs : List MadeRun) → All (IsBoundary (whole r.events) kept) boundaries
    → Linked IsWithin boundaries
    → AreMadeOf r kept predicate (empty_cut r.events ∷ boundaries ++ full_cut r.events ∷ []) runs
    → Possibly r.events (test_of r predicate)
    ↔ ((run : MadeRun) × Contains runs run × Possibly run.recorded.events (made_test predicate run))

abbrev pub DefinitelyOfMadeRuns : Type 0
DefinitelyOfMadeRuns =
    (r : Recorded) → HasNoCycle r.events → (kept : Place → Bool) (predicate : Predicate)
    (boundaries : List (List ℕ)) (runs : List MadeRun) → All (IsBoundary (whole r.events) kept) boundaries
    → Linked IsWithin boundaries
    → AreMadeOf r kept predicate (empty_cut r.events ∷ boundaries ++ full_cut r.events ∷ []) runs
    → Definitely r.events (test_of r predicate)
    ↔ ((run : MadeRun) × Contains runs run × Definitely run.recorded.events (made_test predicate run))
