-- A tool of proofs: nothing that a reader has to believe. What a walk up the levels may answer, if it has the whole
-- list of each level. `test` says whether a cut satisfies.
use Rattle.std.specs.Prelude.{◌≡◌, ℕ, ◌+◌, ◌<◌, ◌≤◌, Bool, true, false, List, [], length, slice_index_or, ◌↔◌, sum, slice_index, Contains}
use Rattle.def_model.specs.Events.{Computation}
use Rattle.def_model.specs.Order.{HasNoCycle}
use Rattle.def_model.specs.Cuts.{IsOfLevel, IsNextOf, total, one_less}
use Rattle.def_model.specs.Observations.{IsAvoiding, HasNoAvoiding}
use Rattle.def_model.specs.Answers.{IsListOf, MoreThan, PossiblyYes, PossiblyNo, DefinitelyYes, DefinitelyNo, IsPossiblyAnswer, IsDefinitelyAnswer, LeavesAvoiding, IsPrintedPath}

-- no level below k has more than w cuts
abbrev pub IsNarrowBelow : Computation → ℕ → ℕ → Type 0
IsNarrowBelow c w k = (j : ℕ) → j < k → ¬ MoreThan w (IsOfLevel c j)

-- no cut of a level below k satisfies
abbrev pub NoneBelow : Computation → (List ℕ → Bool) → ℕ → Type 0
NoneBelow c test k = (j : ℕ) (cut : List ℕ) → j < k → IsOfLevel c j cut → test cut ≡ false

-- no level below k has more than w avoiding cuts
abbrev pub IsNarrowlyAvoidedBelow : Computation → (List ℕ → Bool) → ℕ → ℕ → Type 0
IsNarrowlyAvoidedBelow c test w k = (j : ℕ) → j < k → ¬ MoreThan w (IsAvoiding c test j)

-- each level below k has an avoiding cut
abbrev pub IsAvoidedBelow : Computation → (List ℕ → Bool) → ℕ → Type 0
IsAvoidedBelow c test k = (j : ℕ) → j < k → (cut : List ℕ) × IsAvoiding c test j cut

-- A list of at most w things says that there are no more.
abbrev pub ShortLevel : Type 0
ShortLevel =
    (c : Computation) (w k : ℕ) (cuts : List (List ℕ)) → IsListOf (IsOfLevel c k) cuts → length cuts ≤ w
    → ¬ MoreThan w (IsOfLevel c k)

abbrev pub ShortAvoiding : Type 0
ShortAvoiding =
    (c : Computation) (test : List ℕ → Bool) (w k : ℕ) (cuts : List (List ℕ)) → IsListOf (IsAvoiding c test k) cuts
    → length cuts ≤ w → ¬ MoreThan w (IsAvoiding c test k)

-- The first satisfying cut in the list of level k is the answer, if the levels so far are narrow and none below
-- satisfies.
abbrev pub FoundInLevel : Type 0
FoundInLevel =
    (c : Computation) (test : List ℕ → Bool) (w k : ℕ) → IsNarrowBelow c w k → NoneBelow c test k
    → (cuts : List (List ℕ)) → IsListOf (IsOfLevel c k) cuts → length cuts ≤ w → (i : ℕ) → i < length cuts
    → test (slice_index_or cuts i []) ≡ true → ((j : ℕ) → j < i → test (slice_index_or cuts j []) ≡ false)
    → IsPossiblyAnswer c test w (PossiblyYes (slice_index_or cuts i []))

-- Past the last level the answer is no, and at a level that is too wide it is unknown.
abbrev pub NoneInLevels : Type 0
NoneInLevels =
    (c : Computation) (test : List ℕ → Bool) (w k : ℕ) → IsNarrowBelow c w k → NoneBelow c test k → total c < k
    → IsPossiblyAnswer c test w PossiblyNo

abbrev pub WideNext : Type 0
WideNext =
    (c : Computation) → HasNoCycle c → (w k : ℕ) (cuts : List (List ℕ)) → IsListOf (IsOfLevel c k) cuts
    → MoreThan w (IsNextOf c cuts) → MoreThan w (IsOfLevel c (k + 1))

-- A level with no avoiding cut, above levels that have one, is the answer.
abbrev pub FreeLevel : Type 0
FreeLevel =
    (c : Computation) (test : List ℕ → Bool) (w k : ℕ) → IsNarrowlyAvoidedBelow c test w k → k ≤ total c
    → IsAvoidedBelow c test k → HasNoAvoiding c test k → IsDefinitelyAnswer c test w (DefinitelyYes k)

-- The path found from an avoiding cut of the last level is the answer.
abbrev pub PathOfLevels : Type 0
PathOfLevels =
    (c : Computation) (test : List ℕ → Bool) (w k : ℕ) → IsNarrowlyAvoidedBelow c test w k → total c < k
    → (path : List ℕ) → IsPrintedPath c test path → IsDefinitelyAnswer c test w (DefinitelyNo path)

-- On the way back from a cut of k + 1 events the list of the avoiding cuts of level k says which processes can be
-- undone.
abbrev pub UndoneByList : Type 0
UndoneByList =
    (c : Computation) (test : List ℕ → Bool) (k : ℕ) (cuts : List (List ℕ)) → IsListOf (IsAvoiding c test k) cuts
    → (cut : List ℕ) → sum cut ≡ k + 1 → (p : ℕ) → LeavesAvoiding c test cut p
    ↔ ((0 < slice_index cut p) × Contains cuts (one_less cut p))

-- An avoiding cut with events has a process that can be undone.
abbrev pub SomeUndone : Type 0
SomeUndone =
    (c : Computation) (test : List ℕ → Bool) (k : ℕ) (cut : List ℕ) → IsAvoiding c test (k + 1) cut
    → (p : ℕ) × (p < length cut) × LeavesAvoiding c test cut p
