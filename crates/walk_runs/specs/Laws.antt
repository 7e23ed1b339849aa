-- The laws of runs, of births, of whole levels and of marks, each stated for every computation.
use Rattle.std.specs.Prelude.{◌≡◌, ℕ, ◌+◌, ◌-◌, ◌<◌, ◌≤◌, ◌⊎◌, ◌↔◌, Bool, IsTrue, cond, List, [], ◌∷◌, length, sum, slice_index, suc, true, false, ◌++◌, slice_index_or, Contains}
use Rattle.def_model.specs.Events.{Computation, place}
use Rattle.def_model.specs.Order.{HasNoCycle}
use Rattle.def_model.specs.Cuts.{IsConsistent, IsOfLevel, one_more, one_less, empty_cut}
use Rattle.walk_keys.specs.Neighbors.{cut_at}
use Rattle.walk_runs.specs.Runs.{IsAliveAtSum, IsInterval}
use Rattle.walk_runs.specs.Births.{IsWalkable, IsAlive, IsYoung, IsGreatest, IsLeast, IsTop, IsLow, IsMetAt, IsReceivedBelow, IsCandidate}
use Rattle.def_model.specs.Observations.{IsAvoiding}
use Rattle.def_model.specs.Answers.{IsListOf, IsFirstSatisfying}
use Rattle.def_model.specs.Walks.{NoneBelow}
use Rattle.walk_runs.specs.WholeLevels.{Run, cuts_of_runs, IsRunOf, IsWhole, IsMovedTo, IsBornBeside, IsNextRuns, IsMadeAt, AvoidsAt, AreMarked, IsMarked, marked_of_runs, marks_of_runs, IsPaired, count_of_runs}

-- ---- runs

-- Cuts with one prefix: where two corners of a square are consistent, one by an event of each process, so are the other
-- two.
abbrev pub Inside : Type 0
Inside =
    (c : Computation) (prefix : List ℕ) (x y : ℕ) → IsConsistent c (cut_at prefix x (y + 1))
    → IsConsistent c (cut_at prefix (x + 1) y) → IsConsistent c (cut_at prefix (x + 1) (y + 1))
    × IsConsistent c (cut_at prefix x y)

-- The step down between two cuts of one prefix is by one of the last two processes.
abbrev pub StepInPrefix : Type 0
StepInPrefix =
    (c : Computation) → HasNoCycle c → (prefix : List ℕ) (u v x y : ℕ) → IsConsistent c (cut_at prefix u v)
    → IsConsistent c (cut_at prefix x y) → u ≤ x → v ≤ y → u + v < x + y
    → ((u < x) × IsConsistent c (cut_at prefix (x - 1) y)) ⊎ ((v < y) × IsConsistent c (cut_at prefix x (y - 1)))

-- Where a prefix is alive, from each cut of the next level with this prefix one of the last two processes can be
-- undone.
abbrev pub OneBelow : Type 0
OneBelow =
    (c : Computation) → HasNoCycle c → (prefix : List ℕ) (s x y : ℕ) → IsAliveAtSum c prefix s → x + y ≡ s + 1
    → IsConsistent c (cut_at prefix x y) → ((0 < x) × IsConsistent c (cut_at prefix (x - 1) y))
    ⊎ ((0 < y) × IsConsistent c (cut_at prefix x (y - 1)))

-- An alive prefix has an interval, and its end points are determined; and what has an interval is alive exactly where
-- that isn't empty.
abbrev pub SomeInterval : Type 0
SomeInterval =
    (c : Computation) → HasNoCycle c → (prefix : List ℕ) (s : ℕ) → IsAliveAtSum c prefix s
    → (lo : ℕ) × (hi : ℕ) × (lo ≤ hi) × IsInterval c prefix s lo hi

abbrev pub OneInterval : Type 0
OneInterval =
    (c : Computation) (prefix : List ℕ) (s lo hi low high : ℕ) → IsInterval c prefix s lo hi
    → IsInterval c prefix s low high → lo ≤ hi → (lo ≡ low) × (hi ≡ high)

abbrev pub AliveExactly : Type 0
AliveExactly =
    (c : Computation) (prefix : List ℕ) (s lo hi : ℕ) → IsInterval c prefix s lo hi → IsAliveAtSum c prefix s
    ↔ (lo ≤ hi)

-- At level 0 the interval is that of the empty cut.
abbrev pub FirstInterval : Type 0
FirstInterval = (c : Computation) (prefix : List ℕ) → cut_at prefix 0 0 ≡ empty_cut c → IsInterval c prefix 0 0 0

-- One level on, the lower end of an interval that isn't empty stays where the last process can go on from it, and else
-- moves by one; the upper end moves by one where the last process but one can go on from it, and else stays.
abbrev pub EndPoints : Type 0
EndPoints =
    (c : Computation) → HasNoCycle c → (prefix : List ℕ) (s lo hi : ℕ) → IsInterval c prefix s lo hi → lo ≤ hi
    → (a b : Bool) → IsTrue a ↔ IsConsistent c (cut_at prefix lo (s - lo + 1))
    → IsTrue b ↔ IsConsistent c (cut_at prefix (hi + 1) (s - hi))
    → IsInterval c prefix (s + 1) (cond a lo (lo + 1)) (cond b (hi + 1) hi)

-- The same, where p is the last process but one and q the last, and one more event of each is tried.
abbrev pub EndPointsBySteps : Type 0
EndPointsBySteps =
    (c : Computation) → HasNoCycle c → (prefix : List ℕ) (s lo hi : ℕ) → IsInterval c prefix s lo hi → lo ≤ hi
    → (p q : ℕ) → length c ≡ p + 2 → length c ≡ q + 1 → (a b : Bool)
    → IsTrue a ↔ IsConsistent c (one_more (cut_at prefix lo (s - lo)) q)
    → IsTrue b ↔ IsConsistent c (one_more (cut_at prefix hi (s - hi)) p)
    → IsInterval c prefix (s + 1) (cond a lo (lo + 1)) (cond b (hi + 1) hi)

-- ---- births

-- Each cut of two processes or more has a prefix.
abbrev pub HasPrefix : Type 0
HasPrefix =
    (c : Computation) (cut : List ℕ) → IsConsistent c cut → 2 ≤ length c → (prefix : List ℕ) × (x y : ℕ)
    × (cut ≡ cut_at prefix x y)

-- The prefix of level 0 is young there, and its cut has no event of the last two processes.
abbrev pub FirstIsYoung : Type 0
FirstIsYoung =
    (c : Computation) (prefix : List ℕ) (x y : ℕ) → IsOfLevel c 0 (cut_at prefix x y) → IsYoung c 0 prefix × (x ≡ 0)
    × (y ≡ 0)

-- The ends of an interval that isn't empty are its least and its greatest number, with these counts beside them.
abbrev pub EndsOfInterval : Type 0
EndsOfInterval =
    (c : Computation) (k s : ℕ) (prefix : List ℕ) (lo hi : ℕ) → sum prefix + s ≡ k → lo ≤ hi
    → IsInterval c prefix s lo hi → IsLeast c k prefix lo × IsOfLevel c k (cut_at prefix lo (s - lo))
    × IsGreatest c k prefix hi × IsOfLevel c k (cut_at prefix hi (s - hi))

-- Same prefix: where the prefix is alive at level k, from each of its cuts of level k + 1 an event of one of the last
-- two processes can be undone.
abbrev pub SamePrefix : Type 0
SamePrefix =
    (c : Computation) → HasNoCycle c → (k : ℕ) (prefix : List ℕ) (x y : ℕ) → IsAlive c k prefix
    → IsOfLevel c (k + 1) (cut_at prefix x y) → ((0 < x) × IsOfLevel c k (cut_at prefix (x - 1) y))
    ⊎ ((0 < y) × IsOfLevel c k (cut_at prefix x (y - 1)))

-- Born single: where the prefix isn't alive at level k, it has one cut at most at level k + 1,
abbrev pub BornSingle : Type 0
BornSingle =
    (c : Computation) → HasNoCycle c → (k : ℕ) (prefix : List ℕ) (x y z w : ℕ) → ¬ IsAlive c k prefix
    → IsOfLevel c (k + 1) (cut_at prefix x y) → IsOfLevel c (k + 1) (cut_at prefix z w) → (x ≡ z) × (y ≡ w)

-- and only events of the prefix's processes can be undone in that cut.
abbrev pub BornByPrefix : Type 0
BornByPrefix =
    (c : Computation) (k : ℕ) (prefix : List ℕ) (x y p : ℕ) → ¬ IsAlive c k prefix
    → IsOfLevel c (k + 1) (cut_at prefix x y) → 0 < slice_index (cut_at prefix x y) p
    → IsConsistent c (one_less (cut_at prefix x y) p) → p < length prefix

-- Dead stays dead: a prefix that is alive at two levels is alive at each between.
abbrev pub AliveBetween : Type 0
AliveBetween =
    (c : Computation) → HasNoCycle c → (i j k : ℕ) (prefix : List ℕ) → i ≤ j → j ≤ k → IsAlive c i prefix
    → IsAlive c k prefix → IsAlive c j prefix

-- So the prefix isn't alive at any level before the one where it is young.
abbrev pub YoungAtFirst : Type 0
YoungAtFirst =
    (c : Computation) → HasNoCycle c → (j k : ℕ) (prefix : List ℕ) → IsYoung c k prefix → j < k → ¬ IsAlive c j prefix

-- The flag of the greatest x, from that of the level before: the next event of the last process but one may happen
-- there, and is a send that a process of the prefix receives.
abbrev pub TopFlag : Type 0
TopFlag =
    (c : Computation) → HasNoCycle c → (k : ℕ) (prefix : List ℕ) (hi y new : ℕ) → IsGreatest c k prefix hi
    → IsOfLevel c k (cut_at prefix hi y) → IsTop c (k + 1) prefix new
    ↔ ((new ≡ hi + 1) × IsMetAt c (cut_at prefix hi y) (place (length prefix) (hi + 1))
    × IsReceivedBelow c (length prefix) (place (length prefix) (hi + 1)))

-- The flag of the least x, likewise.
abbrev pub LowFlag : Type 0
LowFlag =
    (c : Computation) → HasNoCycle c → (k : ℕ) (prefix : List ℕ) (lo y new beside : ℕ) → IsLeast c k prefix lo
    → IsOfLevel c k (cut_at prefix lo y) → IsLow c (k + 1) prefix new beside
    ↔ ((new ≡ lo) × (beside ≡ y + 1) × IsMetAt c (cut_at prefix lo y) (place (suc (length prefix)) (y + 1))
    × IsReceivedBelow c (length prefix) (place (suc (length prefix)) (y + 1)))

-- Candidates are cuts of the next level.
abbrev pub CandidatesAreCuts : Type 0
CandidatesAreCuts =
    (c : Computation) → IsWalkable c → (k : ℕ) (new : List ℕ) → IsCandidate c k new → IsOfLevel c (k + 1) new

-- No birth is missed: each cut of level k + 1 whose prefix isn't alive at level k is a candidate.
abbrev pub NoBirthMissed : Type 0
NoBirthMissed =
    (c : Computation) → IsWalkable c → (k : ℕ) (prefix : List ℕ) (x y : ℕ) → ¬ IsAlive c k prefix
    → IsOfLevel c (k + 1) (cut_at prefix x y) → IsCandidate c k (cut_at prefix x y)

-- None is skipped: a candidate's prefix isn't alive at level k.
abbrev pub NoneSkipped : Type 0
NoneSkipped =
    (c : Computation) → HasNoCycle c → (k : ℕ) (prefix : List ℕ) (x y : ℕ) → IsCandidate c k (cut_at prefix x y)
    → ¬ IsAlive c k prefix

-- ---- whole levels and marks

-- The cuts that may be left are of three kinds: two of the same prefix, and those of the prefixes with one event less.
abbrev pub AvoidByParents : Type 0
AvoidByParents =
    (c : Computation) (test : List ℕ → Bool) (k : ℕ) (prefix : List ℕ) (x y : ℕ)
    → IsAvoiding c test (k + 1) (cut_at prefix x y)
    ↔ (IsOfLevel c (k + 1) (cut_at prefix x y) × (test (cut_at prefix x y) ≡ false)
    × (((0 < x) × IsAvoiding c test k (cut_at prefix (x - 1) y))
    ⊎ (((0 < y) × IsAvoiding c test k (cut_at prefix x (y - 1)))
    ⊎ ((p : ℕ) × (p < length prefix) × (0 < slice_index prefix p)
    × IsAvoiding c test k (cut_at (one_less prefix p) x y)))))

-- Level 0 has one run, of the empty cut.
abbrev pub FirstWhole : Type 0
FirstWhole =
    (c : Computation) (prefix : List ℕ) → cut_at prefix 0 0 ≡ empty_cut c
    → IsWhole c 0 (record { prefix = prefix; lo = 0; hi = 0 } ∷ [])

-- Where a cut is looked up: it is of level k exactly where its prefix has a run with x in it. There is one run of a
-- prefix.
abbrev pub InRuns : Type 0
InRuns =
    (c : Computation) (k : ℕ) (runs : List Run) → IsWhole c k runs
    → ((prefix : List ℕ) (x y : ℕ) → IsOfLevel c k (cut_at prefix x y)
    ↔ ((sum prefix + (x + y) ≡ k) × ((run : Run) × Contains runs run × (run.prefix ≡ prefix) × (run.lo ≤ x)
    × (x ≤ run.hi)))) × ((run other : Run) → Contains runs run → Contains runs other → run.prefix ≡ other.prefix
    → run ≡ other)

-- The runs' cuts are the list of the level.
abbrev pub CutsOfWhole : Type 0
CutsOfWhole =
    (c : Computation) → 2 ≤ length c → (k : ℕ) (runs : List Run) → IsWhole c k runs
    → IsListOf (IsOfLevel c k) (cuts_of_runs k runs)

-- The moved runs and the born ones are the next level.
abbrev pub NextWhole : Type 0
NextWhole =
    (c : Computation) → IsWalkable c → (k : ℕ) (runs next : List Run) → IsWhole c k runs → IsNextRuns c k runs next
    → IsWhole c (k + 1) next

-- The flags of a moved run: it isn't young; it is top exactly where its upper end has moved by an event that a process
-- of the prefix receives, and low exactly where its lower end has stayed, by such an event of the last process.
abbrev pub FlagsOfMoved : Type 0
FlagsOfMoved =
    (c : Computation) → HasNoCycle c → (k : ℕ) (run new : Run) → IsRunOf c k run → (moved : IsMovedTo c k run new)
    → new.lo ≤ new.hi → (¬ IsYoung c (k + 1) new.prefix)
    × (IsTop c (k + 1) new.prefix new.hi ↔ (IsTrue moved.b
    × IsReceivedBelow c (length new.prefix) (place (length new.prefix) new.hi)))
    × ((y : ℕ) → IsLow c (k + 1) new.prefix new.lo y
    ↔ (IsTrue moved.a × (sum new.prefix + (new.lo + y) ≡ k + 1)
    × IsReceivedBelow c (length new.prefix) (place (suc (length new.prefix)) y)))

-- Those of a born run: it is young, and neither top nor low.
abbrev pub FlagsOfBorn : Type 0
FlagsOfBorn =
    (c : Computation) (k : ℕ) (runs : List Run) → IsWhole c k runs → (new : Run) → IsBornBeside c k runs new
    → IsYoung c (k + 1) new.prefix × ((x : ℕ) → ¬ IsTop c (k + 1) new.prefix x)
    × ((x y : ℕ) → ¬ IsLow c (k + 1) new.prefix x y)

-- So the candidates are found at the ends of the flagged runs.
abbrev pub CandidatesInRuns : Type 0
CandidatesInRuns =
    (c : Computation) → HasNoCycle c → (k : ℕ) (runs : List Run) → IsWhole c k runs → (new : List ℕ)
    → IsCandidate c k new ↔ ((run : Run) × Contains runs run
    × ((p : ℕ) × (p < length run.prefix) × IsMadeAt c k run p new))

-- Of which cuts a mark of level k + 1 is made: by x in its own prefix, and in the prefixes with one event less. What
-- isn't in a run of level k doesn't avoid.
abbrev pub MarkByMarks : Type 0
MarkByMarks =
    (c : Computation) (test : List ℕ → Bool) (k : ℕ) (prefix : List ℕ) (x y : ℕ)
    → IsOfLevel c (k + 1) (cut_at prefix x y) → IsAvoiding c test (k + 1) (cut_at prefix x y)
    ↔ ((test (cut_at prefix x y) ≡ false) × (((0 < x) × AvoidsAt c test k prefix (x - 1))
    ⊎ (AvoidsAt c test k prefix x ⊎ ((p : ℕ) × (p < length prefix) × (0 < slice_index prefix p)
    × AvoidsAt c test k (one_less prefix p) x))))

abbrev pub MarkInRuns : Type 0
MarkInRuns =
    (c : Computation) (test : List ℕ → Bool) (k : ℕ) (runs : List Run) → IsWhole c k runs → (prefix : List ℕ) (x : ℕ)
    → AvoidsAt c test k prefix x → (run : Run) × Contains runs run × (run.prefix ≡ prefix) × (run.lo ≤ x)
    × (x ≤ run.hi)

-- The marked cuts are the list of the avoiding cuts of the level, and are as many as the marks.
abbrev pub MarkedList : Type 0
MarkedList =
    (c : Computation) → 2 ≤ length c → (test : List ℕ → Bool) (k : ℕ) (runs : List Run) → IsWhole c k runs
    → (marks : List (List Bool)) → AreMarked c test k runs marks
    → IsListOf (IsAvoiding c test k) (marked_of_runs k runs marks)
    × (length (marked_of_runs k runs marks) ≡ marks_of_runs marks)

-- A level has one list of runs.
abbrev pub OneWhole : Type 0
OneWhole =
    (c : Computation) (k : ℕ) (runs others : List Run) → IsWhole c k runs → IsWhole c k others → runs ≡ others

-- The lists of runs and marks by their places; and the look-up of a mark, where what isn't found doesn't avoid.
abbrev pub MarkedByPlace : Type 0
MarkedByPlace =
    (c : Computation) (test : List ℕ → Bool) (k : ℕ) (runs : List Run) (marks : List (List Bool))
    → AreMarked c test k runs marks ↔ ((length runs ≡ length marks)
    × ((run : Run) (bits : List Bool) → IsPaired runs marks run bits → IsMarked c test k run bits))

abbrev pub MarkLookup : Type 0
MarkLookup =
    (c : Computation) (test : List ℕ → Bool) (k : ℕ) (runs : List Run) → IsWhole c k runs → (marks : List (List Bool))
    → AreMarked c test k runs marks → (prefix : List ℕ) (x : ℕ) → AvoidsAt c test k prefix x
    ↔ ((run : Run) × (bits : List Bool) × IsPaired runs marks run bits × (run.prefix ≡ prefix) × (run.lo ≤ x)
    × IsTrue (slice_index_or bits (x - run.lo) false))

-- The number of a level's cuts, from its runs alone.
abbrev pub CountOfRuns : Type 0
CountOfRuns =
    (k : ℕ) (runs : List Run) → length (cuts_of_runs k runs) ≡ count_of_runs runs

-- The first hit: where no cut of a lower level satisfies, and none of an earlier run, or of its own run with a less x,
-- this one is the first satisfying cut.
abbrev pub FirstHitInRuns : Type 0
FirstHitInRuns =
    (c : Computation) (test : List ℕ → Bool) (k : ℕ) (before : List Run) (run : Run) (after : List Run)
    → IsWhole c k (before ++ run ∷ after) → NoneBelow c test k → (x y : ℕ) → run.lo ≤ x → x ≤ run.hi
    → sum run.prefix + (x + y) ≡ k → test (cut_at run.prefix x y) ≡ true
    → ((other : Run) (u v : ℕ) → Contains before other → other.lo ≤ u → u ≤ other.hi
    → sum other.prefix + (u + v) ≡ k → test (cut_at other.prefix u v) ≡ false)
    → ((u v : ℕ) → run.lo ≤ u → u < x → sum run.prefix + (u + v) ≡ k → test (cut_at run.prefix u v) ≡ false)
    → IsFirstSatisfying c test (cut_at run.prefix x y)
