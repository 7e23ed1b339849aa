-- Intervals of good counts, and how the least box is found from the first of them on. `good` says which counts of one
-- process are good, or `good p n` whether count n of process p is. A process leaves an interval at the first count
-- after it, which is one more than its last count if it never does.
use Rattle.std.specs.Prelude.{◌≡◌, ℕ, ◌+◌, ◌<◌, ◌≤◌, Bool, true, false, List, length, slice_index, slice_set}
use Rattle.def_model.specs.Events.{Computation, Place, event_count, place}
use Rattle.def_model.specs.Order.{IsClock}
use Rattle.def_model.specs.Cuts.{full_cut}
use Rattle.def_model.specs.Lattice.{IsWithin}
use Rattle.wide_conjunctions.specs.Boxes.{IsBox}

-- the first good count from this one on, or the end
pub record IsNextGood (good : ℕ → Bool) (from end next : ℕ) : Type 0 where
  pub low : from ≤ next
  pub high : next ≤ end
  pub passed : (n : ℕ) → from ≤ n → n < next → good n ≡ false
  pub here : next < end → good next ≡ true

-- the first count from this one on that isn't good, or the end
pub record IsNextBad (good : ℕ → Bool) (from end next : ℕ) : Type 0 where
  pub low : from ≤ next
  pub high : next ≤ end
  pub passed : (n : ℕ) → from ≤ n → n < next → good n ≡ true
  pub here : next < end → good next ≡ false

-- all counts from the start to where it is left are good
pub record IsInterval (good : ℕ → Bool) (last start leave : ℕ) : Type 0 where
  pub some : start < leave
  pub within : leave ≤ last + 1
  pub good_there : (n : ℕ) → start ≤ n → n < leave → good n ≡ true
  pub left : leave ≤ last → good leave ≡ false

-- Process q has gone to its first interval from a count on.
pub record HasEntered (good : ℕ → Bool) (q last from : ℕ) (starts leaves new_starts new_leaves : List ℕ) : Type 0 where
  pub start : ℕ
  pub leave : ℕ
  pub low : from ≤ start
  pub passed : (n : ℕ) → from ≤ n → n < start → good n ≡ false
  pub interval : IsInterval good last start leave
  pub starts_there : new_starts ≡ slice_set starts q start
  pub leaves_there : new_leaves ≡ slice_set leaves q leave

-- no count from this one on, up to the last, is good
abbrev pub HasNoneFrom : (ℕ → Bool) → ℕ → ℕ → Type 0
HasNoneFrom good last from = (n : ℕ) → from ≤ n → n ≤ last → good n ≡ false

-- of process p fewer events are this one or happened before it than the count says
abbrev pub IsMissing : Computation → List ℕ → Place → ℕ → Type 0
IsMissing c counts e p = (p < length c) × ((n : ℕ) × IsClock c e p n × (n < slice_index counts p))

-- of some process
abbrev pub IsEarly : Computation → List ℕ → Place → Type 0
IsEarly c counts e = (p : ℕ) × IsMissing c counts e p

-- of each process as many are
abbrev pub HasAll : Computation → List ℕ → Place → Type 0
HasAll c counts e = (p : ℕ) → p < length c → (n : ℕ) × IsClock c e p n × (slice_index counts p ≤ n)

-- process q leaves its interval, at this count, before some other has come to its own
abbrev pub IsLeftEarly : Computation → List ℕ → ℕ → ℕ → Type 0
IsLeftEarly c starts q leave = (leave ≤ event_count c q) × IsEarly c starts (place q leave)

-- or it doesn't leave it, or only after each other has
abbrev pub IsLeftInTime : Computation → List ℕ → ℕ → ℕ → Type 0
IsLeftInTime c starts q leave = leave ≤ event_count c q → HasAll c starts (place q leave)

-- process q leaves its interval before some other has come to its own
abbrev pub LeavesEarly : Computation → List ℕ → List ℕ → ℕ → Type 0
LeavesEarly c starts leaves q = (q < length c) × IsLeftEarly c starts q (slice_index leaves q)

-- none does
abbrev pub NoneLeavesEarly : Computation → List ℕ → List ℕ → Type 0
NoneLeavesEarly c starts leaves = (q : ℕ) → q < length c → IsLeftInTime c starts q (slice_index leaves q)

-- The first processes, this many, are in intervals, and no box in the full cut has a count before the starts.
pub record AreBelowBoxes (c : Computation) (good : ℕ → ℕ → Bool) (many : ℕ) (starts leaves : List ℕ) : Type 0 where
  pub starts_each : length starts ≡ length c
  pub leaves_each : length leaves ≡ length c
  pub intervals : (q : ℕ) → q < many
      → IsInterval (good q) (event_count c q) (slice_index starts q) (slice_index leaves q)
  pub below : (box : List ℕ) → IsBox c good (full_cut c) box → IsWithin starts box
