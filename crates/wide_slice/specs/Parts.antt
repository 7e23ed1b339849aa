-- The steps of one process, of its points those that are kept. `v` says what the process adds at each count, and `low`
-- is its count in the least cut.
use Rattle.std.specs.Prelude.{◌≡◌, ℕ, ◌<◌, ◌≤◌, Bool, true, cond, nat_le, List, [], ◌∷◌, ◌++◌, length, ℤ, ◌-ℤ◌, ◌≤ℤ◌, unsigned_abs}
use Rattle.wide_flow.specs.Steps.{size_limit, step_at}
use Rattle.wide_flow.specs.declared.step.Step.{Step}
use Rattle.wide_slice.specs.Points.{count_at, flag, past_at}
use Rattle.wide_slice.specs.declared.points.Point.{Point}

abbrev pub AreInOrder : List Point → Type 0
AreInOrder points = (i j : ℕ) → i < j → j < length points → count_at points i < count_at points j

abbrev pub AreAbove : ℕ → List Point → Type 0
AreAbove low points = (k : ℕ) → k < length points → low < count_at points k

-- the counts of the steps ascend, and each adds what the process adds at its count more than at the one before
abbrev pub IsChain : (ℕ → ℤ) → ℕ → List Step → Type 0
IsChain v low [] = Unit {0}
IsChain v low (step ∷ steps) =
    (low < step.count) × (step.weight ≡ v step.count -ℤ v low) × IsChain v step.count steps

-- the last count of the steps up to this one
abbrev pub kept_to : ℕ → List Step → ℕ → ℕ
kept_to low [] count = low
kept_to low (step ∷ steps) count = cond (nat_le step.count count) (kept_to step.count steps count) low

-- the last count of all
abbrev pub last_kept : ℕ → List Step → ℕ
last_kept low [] = low
last_kept low (step ∷ steps) = last_kept step.count steps

-- the step is one of the points of process p
pub record IsStepOf (points : List Point) (p : ℕ) (step : Step) : Type 0 where
  pub own : step.process ≡ p
  pub small : unsigned_abs step.weight < size_limit
  pub place : ℕ
  pub there : place < length points
  pub count_is : step.count ≡ count_at points place
  pub past_is : step.past.now ≡ past_at points place

-- The steps of the first `many` points of process p.
pub record IsPartUpTo (points : List Point) (flags : List Bool) (v : ℕ → ℤ) (p low many : ℕ) (part : List Step) :
    Type 0 where
  pub few : length part ≤ many
  pub each : (i : ℕ) → i < length part → IsStepOf points p (step_at part i)
  pub chain : IsChain v low part
  pub later : (k : ℕ) → many ≤ k → k < length points → last_kept low part < count_at points k
  -- nothing greater is passed over, and no marked count is
  pub high : (k : ℕ) → k < many → v (count_at points k) ≤ℤ v (kept_to low part (count_at points k))
  pub asked : (k : ℕ) → k < many → flag flags (count_at points k) ≡ true
      → kept_to low part (count_at points k) ≡ count_at points k

-- the steps of a process are added to the others
abbrev pub AddsPart : List Point → List Bool → (ℕ → ℤ) → ℕ → ℕ → List Step → List Step → Type 0
AddsPart points flags v p low old new =
    (part : List Step) × (new ≡ old ++ part) × IsPartUpTo points flags v p low (length points) part
