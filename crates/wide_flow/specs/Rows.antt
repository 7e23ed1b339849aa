-- The negative steps of each process, by their places.
use Rattle.std.specs.Prelude.{◌≡◌, ℕ, zero, suc, ◌<◌, ◌≤◌, List, [], ◌∷◌, length, slice_index, Vec}
use Rattle.std.specs.Global.{Global}
use Rattle.wide_flow.specs.declared.step.Step.{Step}
use Rattle.wide_flow.specs.Steps.{IsNegative, step_at}

-- the step is a negative one of this process
pub record IsPayer (steps : List Step) (p s : ℕ) : Type 0 where
  pub there : s < length steps
  pub own : (step_at steps s).process ≡ p
  pub negative : IsNegative steps s

-- the places of the negative steps of a process among the first n, in the order of their counts
pub record IsRowUpTo (steps : List Step) (n p : ℕ) (row : List ℕ) : Type 0 where
  pub each : (k : ℕ) → k < length row → IsPayer steps p (slice_index row k)
  pub low : (k : ℕ) → k < length row → slice_index row k < n
  pub all : (s : ℕ) → s < n → IsPayer steps p s → (k : ℕ) × (k < length row) × (slice_index row k ≡ s)
  pub counted : (i j : ℕ) → i < j → j < length row
      → (step_at steps (slice_index row i)).count ≤ (step_at steps (slice_index row j)).count

abbrev pub IsRow : List Step → ℕ → List ℕ → Type 0
IsRow steps p row = IsRowUpTo steps (length steps) p row

-- the row of a process
abbrev pub row_of : List (Vec ℕ Global) → ℕ → List ℕ
row_of [] p = []
row_of (row ∷ rows) zero = row.items
row_of (row ∷ rows) (suc p) = row_of rows p

-- of each process
pub record AreRows (processes : ℕ) (steps : List Step) (rows : List (Vec ℕ Global)) : Type 0 where
  pub one_each : length rows ≡ processes
  pub each : (p : ℕ) → p < processes → IsRow steps p (row_of rows p)

-- the first ones, this many, have counts up to this one, and the others greater counts
pub record IsManyUpTo (steps : List Step) (row : List ℕ) (count many : ℕ) : Type 0 where
  pub within : many ≤ length row
  pub up_to : (k : ℕ) → k < many → (step_at steps (slice_index row k)).count ≤ count
  pub above : (k : ℕ) → many ≤ k → k < length row → count < (step_at steps (slice_index row k)).count
