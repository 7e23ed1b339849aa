-- The way back from the full cut where there is no box in it, and how a box is looked for from the last intervals on.
-- `good p n` says whether count n of process p is good.
use Rattle.std.specs.Prelude.{◌≡◌, ℕ, ◌-◌, ◌<◌, ◌≤◌, Bool, true, false, List, [], ◌∷◌, ◌++◌, length, reverse, slice_index, slice_set}
use Rattle.def_model.specs.Events.{Computation, place}
use Rattle.def_model.specs.Order.{HasNoCycle, IsClock}
use Rattle.def_model.specs.Cuts.{IsConsistent, empty_cut, full_cut, one_less}
use Rattle.def_model.specs.Answers.{IsPrintedPath}
use Rattle.wide_conjunctions.specs.Boxes.{HasNoBox, IsBox, IsConjunction, LeavesNoBox}
use Rattle.wide_conjunctions.specs.Intervals.{HasAll, IsInterval, IsMissing}

-- From the cut back to the empty one, each step undoes the event of the least process that leaves a cut without a box.
-- The list has the processes in the order in which their events are undone.
abbrev pub IsWayBack : Computation → (ℕ → ℕ → Bool) → List ℕ → List ℕ → Type 0
IsWayBack c good cut [] = cut ≡ empty_cut c
IsWayBack c good cut (p ∷ rest) =
    LeavesNoBox c good cut p × ((q : ℕ) → q < p → ¬ LeavesNoBox c good cut q) × IsWayBack c good (one_less cut p) rest

-- The processes lead from the full cut back to this one, which has no box.
pub record IsReached (c : Computation) (good : ℕ → ℕ → Bool) (path cut : List ℕ) : Type 0 where
  pub consistent : IsConsistent c cut
  pub none : HasNoBox c good cut
  pub onward : (rest : List ℕ) → IsWayBack c good cut rest → IsWayBack c good (full_cut c) (path ++ rest)

-- Such a way from the full cut, turned around, is the path printed of each test that holds exactly where each process
-- is at a good count.
abbrev pub PathOfWay : Type 0
PathOfWay =
    (c : Computation) → HasNoCycle c → (test : List ℕ → Bool) (good : ℕ → ℕ → Bool) → IsConjunction c test good
    → HasNoBox c good (full_cut c) → (path : List ℕ) → IsWayBack c good (full_cut c) (reverse path)
    → IsPrintedPath c test path

-- to undo the last event of process p brings it back into an interval
abbrev pub ComesBack : (ℕ → ℕ → Bool) → List ℕ → ℕ → Type 0
ComesBack good cut p = (good p (slice_index cut p) ≡ false) × (good p (slice_index cut p - 1) ≡ true)

-- no box in the cut has its count of process p in an earlier interval than the last one
abbrev pub HasNoneEarlier : Computation → (ℕ → ℕ → Bool) → List ℕ → ℕ → Type 0
HasNoneEarlier c good cut p =
    (box : List ℕ) → IsBox c good cut box → (n : ℕ) → slice_index box p < n → n ≤ slice_index cut p
    → good p n ≡ true

-- one more than the last good count before this one, or 0
pub record IsLastGood (good : ℕ → Bool) (before leave : ℕ) : Type 0 where
  pub high : leave ≤ before
  pub passed : (n : ℕ) → leave ≤ n → n < before → good n ≡ false
  pub here : 0 < leave → good (leave - 1) ≡ true

-- the first of the good counts up to where they are left
pub record IsFirstOf (good : ℕ → Bool) (leave start : ℕ) : Type 0 where
  pub low : start ≤ leave
  pub passed : (n : ℕ) → start ≤ n → n < leave → good n ≡ true
  pub here : 0 < start → good (start - 1) ≡ false

-- Process q has gone to its last interval before a count.
pub record HasEnteredBefore (good : ℕ → Bool) (q before : ℕ) (starts leaves new_starts new_leaves : List ℕ) :
    Type 0 where
  pub start : ℕ
  pub leave : ℕ
  pub some : 0 < leave
  pub last : IsLastGood good before leave
  pub first : IsFirstOf good leave start
  pub starts_there : new_starts ≡ slice_set starts q start
  pub leaves_there : new_leaves ≡ slice_set leaves q leave

-- no count before this one is good
abbrev pub HasNoneBefore : (ℕ → Bool) → ℕ → Type 0
HasNoneBefore good before = (n : ℕ) → n < before → good n ≡ false

-- The first processes, this many, are in intervals, and no box in the cut has a count after them.
pub record AreAboveBoxes (c : Computation) (good : ℕ → ℕ → Bool) (cut : List ℕ) (many : ℕ) (starts leaves : List ℕ) :
    Type 0 where
  pub starts_each : length starts ≡ length c
  pub leaves_each : length leaves ≡ length c
  pub intervals : (q : ℕ) → q < many
      → IsInterval (good q) (slice_index cut q) (slice_index starts q) (slice_index leaves q)
  pub begin : (q : ℕ) → q < many → 0 < slice_index starts q → good q (slice_index starts q - 1) ≡ false
  pub above : (box : List ℕ) → IsBox c good cut box → (q : ℕ) → q < many
      → slice_index box q < slice_index leaves q

-- where process q leaves its interval within the cut, r hasn't come to its own
abbrev pub IsLateAt : Computation → List ℕ → List ℕ → ℕ → ℕ → ℕ → Type 0
IsLateAt c cut starts q leave r = (leave ≤ slice_index cut q) × IsMissing c starts (place q leave) r

-- or none is late there
abbrev pub NoneIsLateAt : Computation → List ℕ → List ℕ → ℕ → ℕ → Type 0
NoneIsLateAt c cut starts q leave = leave ≤ slice_index cut q → HasAll c starts (place q leave)

-- or r has come to its own there
abbrev pub IsInTimeAt : Computation → List ℕ → List ℕ → ℕ → ℕ → ℕ → Type 0
IsInTimeAt c cut starts q leave r =
    leave ≤ slice_index cut q → (n : ℕ) × IsClock c (place q leave) r n × (slice_index starts r ≤ n)

abbrev pub IsInTime : Computation → List ℕ → List ℕ → List ℕ → ℕ → Type 0
IsInTime c cut starts leaves r = (q : ℕ) → q < length c → IsInTimeAt c cut starts q (slice_index leaves q) r

-- r is late for some process
abbrev pub IsLate : Computation → List ℕ → List ℕ → List ℕ → ℕ → Type 0
IsLate c cut starts leaves r = (q : ℕ) × (q < length c) × IsLateAt c cut starts q (slice_index leaves q) r

abbrev pub NoneIsLate : Computation → List ℕ → List ℕ → List ℕ → Type 0
NoneIsLate c cut starts leaves = (q : ℕ) → q < length c → NoneIsLateAt c cut starts q (slice_index leaves q)
