-- How far a bound is lowered.
use Rattle.std.specs.Prelude.{◌≡◌, ℕ, ◌<◌, ◌≤◌, ◌⊎◌, List, length, min, slice_index}
use Rattle.def_model.specs.Lattice.{IsWithin}
use Rattle.def_wide.specs.Heights.{height}
use Rattle.wide_flow.specs.declared.step.Step.{Step}
use Rattle.wide_reach.specs.Bounds.{Reaches}

-- the counts agree with the bound's on the first n processes
abbrev pub AgreesUpTo : List ℕ → List ℕ → ℕ → Type 0
AgreesUpTo other bound n = (q : ℕ) → q < n → slice_index other q ≡ slice_index bound q

-- the first of these processes on which they differ has a greater count
abbrev pub IsAfter : List ℕ → List ℕ → ℕ → Type 0
IsAfter other bound n = (q : ℕ) × (q < n) × (slice_index bound q < slice_index other q) × AgreesUpTo other bound q

-- The counts of the first n processes are the least ones, one process after another, and those of the others are the
-- counts of `full` up to this height, which is the least one.
pub record IsLowered (steps : List Step) (target : ℕ) (full : List ℕ) (high : ℕ) (bound : List ℕ) (n : ℕ) : Type 0 where
  pub one_each : length bound ≡ length full
  pub within : IsWithin bound full
  pub up_to : (q : ℕ) → slice_index bound q ≤ high
  pub rest : (q : ℕ) → n ≤ q → slice_index bound q ≡ min (slice_index full q) high
  pub reaches : Reaches steps target bound
  pub no_lower : (other : List ℕ) → length other ≡ length full → IsWithin other full → Reaches steps target other
      → high ≤ height other
  pub first : (other : List ℕ) → length other ≡ length full → IsWithin other full → Reaches steps target other
      → height other ≤ high → AgreesUpTo other bound n ⊎ IsAfter other bound n
