-- How a step that lacks something looks for a payer.
use Rattle.std.specs.Prelude.{◌≡◌, ℕ, ◌<◌, ◌≤◌, Bool, false, IsTrue, List, length, slice_index, slice_index_or, MatchOption, Vec}
use Rattle.std.specs.Global.{Global}
use Rattle.wide_flow.specs.declared.step.Step.{Step}
use Rattle.wide_flow.specs.declared.takes.Take.{Take}
use Rattle.wide_flow.specs.declared.takes.Flow.{Flow}
use Rattle.wide_flow.specs.declared.reach.Reached.{Reached}
use Rattle.wide_flow.specs.declared.search.Found.{Found}
use Rattle.wide_flow.specs.Rows.{row_of}
use Rattle.wide_flow.specs.Flows.{CanTake, take_at}
use Rattle.wide_flow.specs.Steps.{IsPast, is_negative}

abbrev pub no_reached : Reached
no_reached = record { step = 0; from = 0; by = 0; room = 0 }

abbrev pub reached_at : List Reached → ℕ → Reached
reached_at reached i = slice_index_or reached i no_reached

-- the step is among those that were reached
abbrev pub HasReached : List Reached → ℕ → Type 0
HasReached reached s = (i : ℕ) × (i < length reached) × ((reached_at reached i).step ≡ s)

-- the step at place j, after the first, takes from a payer of the one from which it was reached
pub record IsReachedFrom (steps : List Step) (takes : List Take) (reached : List Reached) (j : ℕ) : Type 0 where
  pub earlier : (reached_at reached j).from < j
  pub there : (reached_at reached j).by < length takes
  pub own : (take_at takes (reached_at reached j).by).taker ≡ (reached_at reached j).step
  pub past : IsPast steps (take_at takes (reached_at reached j).by).payer
      (reached_at reached (reached_at reached j).from).step
  pub narrow : (reached_at reached j).room ≤ (reached_at reached (reached_at reached j).from).room
  pub enough : (reached_at reached j).room ≤ (take_at takes (reached_at reached j).by).amount

-- the steps that were reached from the first one, each once
pub record AreReached (steps : List Step) (flow : Flow) (reached : List Reached) (places : List ℕ) : Type 0 where
  pub some : 0 < length reached
  pub lacking : (reached_at reached 0).room ≤ slice_index flow.left.items (reached_at reached 0).step
  pub there : (j : ℕ) → j < length reached → (reached_at reached j).step < length steps
  pub positive : (j : ℕ) → j < length reached → is_negative steps (reached_at reached j).step ≡ false
  pub room : (j : ℕ) → j < length reached → 0 < (reached_at reached j).room
  pub once : (j : ℕ) → j < length reached → slice_index places (reached_at reached j).step ≡ j
  pub later : (j : ℕ) → 0 < j → j < length reached → IsReachedFrom steps flow.takes.items reached j
  pub places_each : length places ≡ length steps

-- the list goes on after another one
pub record GoesOn (old new : List Reached) : Type 0 where
  pub longer : length old ≤ length new
  pub same : (j : ℕ) → j < length old → reached_at new j ≡ reached_at old j

-- the payer has nothing left, and who takes from it was reached
pub record IsLookedAt (flow : Flow) (reached : List Reached) (f : ℕ) : Type 0 where
  pub full : slice_index flow.left.items f ≡ 0
  pub takers : (i : ℕ) → i < length flow.takes.items → (take_at flow.takes.items i).payer ≡ f
      → HasReached reached (take_at flow.takes.items i).taker

-- no step stands in two places
abbrev pub AreOnce : List Reached → Type 0
AreOnce reached = (i j : ℕ) → i < length reached → j < length reached
    → (reached_at reached i).step ≡ (reached_at reached j).step → i ≡ j

-- the step is in the past of one that was reached
abbrev pub IsInReach : List Step → List Reached → ℕ → Type 0
IsInReach steps reached f = (j : ℕ) × (j < length reached) × IsPast steps f (reached_at reached j).step

-- the k-th payer of process p
abbrev pub payer_at : List (Vec ℕ Global) → ℕ → ℕ → ℕ
payer_at rows p k = slice_index (row_of rows p) k

-- the first payers of a row, this many, are in the past of step e, and no others of this row
pub record AreInPast (steps : List Step) (row : List ℕ) (e many : ℕ) : Type 0 where
  pub within : many ≤ length row
  pub past : (k : ℕ) → k < many → IsPast steps (slice_index row k) e
  pub all : (k : ℕ) → k < length row → IsPast steps (slice_index row k) e → k < many

-- it is among the first payers of a row, this many, and has something left
abbrev pub HasPayer : Flow → List ℕ → ℕ → ℕ → Type 0
HasPayer flow row many payer = (k : ℕ) × (k < many) × (slice_index row k ≡ payer)
    × (0 < slice_index flow.left.items payer)

-- Where a search for step e begins: of each process with the payers in e's past, or with the frozen ones if these are
-- more.
pub record AreTops (processes : ℕ) (steps : List Step) (rows : List (Vec ℕ Global)) (frozen : List ℕ) (e : ℕ)
    (tops : List ℕ) : Type 0 where
  pub one_each : length tops ≡ processes
  pub within : (p : ℕ) → p < processes → slice_index tops p ≤ length (row_of rows p)
  pub frozen_in : (p : ℕ) → p < processes → slice_index frozen p ≤ slice_index tops p
  pub past : (p k : ℕ) → p < processes → k < slice_index tops p → slice_index frozen p ≤ k
      → IsPast steps (payer_at rows p k) e
  pub all : (p k : ℕ) → p < processes → k < length (row_of rows p) → IsPast steps (payer_at rows p k) e
      → k < slice_index tops p

-- Of each process the payers from `lows` to `tops` were looked at. All payers in the pasts of the first steps that were
-- reached, this many, are below `tops`.
pub record IsSearch (processes : ℕ) (steps : List Step) (rows : List (Vec ℕ Global)) (flow : Flow) (frozen : List ℕ)
    (e : ℕ) (reached : List Reached) (lows tops : List ℕ) (done : ℕ) : Type 0 where
  pub lows_each : length lows ≡ processes
  pub tops_each : length tops ≡ processes
  pub between : (p : ℕ) → p < processes → slice_index lows p ≤ slice_index tops p
  pub within : (p : ℕ) → p < processes → slice_index tops p ≤ length (row_of rows p)
  pub frozen_in : (p : ℕ) → p < processes → slice_index frozen p ≤ slice_index tops p
  pub looked : (p k : ℕ) → p < processes → slice_index lows p ≤ k → k < slice_index tops p
      → IsLookedAt flow reached (payer_at rows p k)
  pub up : (p k : ℕ) → p < processes → k < slice_index tops p → slice_index frozen p ≤ k
      → IsInReach steps reached (payer_at rows p k)
  pub down : (p k : ℕ) → p < processes → k < slice_index lows p → slice_index frozen p ≤ k
      → IsPast steps (payer_at rows p k) e
  pub all : (j p k : ℕ) → j < done → p < processes → k < length (row_of rows p)
      → IsPast steps (payer_at rows p k) (reached_at reached j).step → k < slice_index tops p

-- a payer for the step at this place, which has something left
pub record IsFree (steps : List Step) (flow : Flow) (reached : List Reached) (at payer : ℕ) : Type 0 where
  pub there : at < length reached
  pub can : CanTake steps (reached_at reached at).step payer
  pub some : 0 < slice_index flow.left.items payer

-- the frozen payers of each process are members of the set
abbrev pub AreMembers : ℕ → List (Vec ℕ Global) → List ℕ → (ℕ → Bool) → Type 0
AreMembers processes rows frozen set = (p k : ℕ) → p < processes → k < slice_index frozen p
    → IsTrue (set (payer_at rows p k))

-- the payers of a row from one place to another were looked at
abbrev pub AreLookedAt : Flow → List Reached → List ℕ → ℕ → ℕ → Type 0
AreLookedAt flow reached row from end = (k : ℕ) → from ≤ k → k < end → IsLookedAt flow reached (slice_index row k)

-- of one process the payers from one place to another were looked at, which are in the past of a step; all that are in
-- its past are before that place
pub record IsRaised (steps : List Step) (flow : Flow) (reached : List Reached) (row : List ℕ) (e from end : ℕ)
    : Type 0 where
  pub up : from ≤ end
  pub within : end ≤ length row
  pub looked : AreLookedAt flow reached row from end
  pub past : (k : ℕ) → from ≤ k → k < end → IsPast steps (slice_index row k) e
  pub all : (k : ℕ) → k < length row → IsPast steps (slice_index row k) e → k < end

-- so of the first n processes, and of the others nothing has changed
pub record AreRaised (processes : ℕ) (steps : List Step) (rows : List (Vec ℕ Global)) (flow : Flow)
    (reached : List Reached) (e : ℕ) (old new : List ℕ) (n : ℕ) : Type 0 where
  pub one_each : length new ≡ processes
  pub raised : (p : ℕ) → p < n → IsRaised steps flow reached (row_of rows p) e (slice_index old p) (slice_index new p)
  pub rest : (p : ℕ) → n ≤ p → p < processes → slice_index new p ≡ slice_index old p

-- A search has ended with no payer: of each process the payers up to `tops` that aren't frozen were looked at, and are
-- in the past of a step that was reached, and no others are.
pub record IsEnded (processes : ℕ) (steps : List Step) (rows : List (Vec ℕ Global)) (flow : Flow) (frozen : List ℕ)
    (reached : List Reached) (tops : List ℕ) : Type 0 where
  pub tops_each : length tops ≡ processes
  pub within : (p : ℕ) → p < processes → slice_index tops p ≤ length (row_of rows p)
  pub looked : (p k : ℕ) → p < processes → slice_index frozen p ≤ k → k < slice_index tops p
      → IsLookedAt flow reached (payer_at rows p k)
  pub up : (p k : ℕ) → p < processes → k < slice_index tops p → slice_index frozen p ≤ k
      → IsInReach steps reached (payer_at rows p k)
  pub all : (j p k : ℕ) → j < length reached → p < processes → k < length (row_of rows p)
      → IsPast steps (payer_at rows p k) (reached_at reached j).step → k < slice_index tops p

-- what a search has found: a payer, or that there is none
abbrev pub HasFound : ℕ → List Step → List (Vec ℕ Global) → Flow → List ℕ → Found → Type 0
HasFound processes steps rows flow frozen found =
    MatchOption found.payer (IsEnded processes steps rows flow frozen found.reached.items found.tops.items)
    (λ payer. IsFree steps flow found.reached.items payer.at payer.step)
