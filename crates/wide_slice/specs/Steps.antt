-- Steps from the least cut of a slice, whose closed sets stand for cuts of the slice. A set of steps is a test of
-- processes and counts.
use Rattle.std.specs.Prelude.{◌≡◌, ℕ, ◌<◌, ◌≤◌, Bool, IsTrue, cond, List, [], ◌∷◌, length, ℤ, pos, ◌+ℤ◌, ◌≤ℤ◌, slice_index, unsigned_abs, Vec}
use Rattle.std.specs.Global.{Global}
use Rattle.def_model.specs.Events.{Computation}
use Rattle.def_model.specs.Lattice.{IsWithin}
use Rattle.wide_flow.specs.Steps.{IsPast, size_limit, step_at, step_limit}
use Rattle.wide_flow.specs.declared.step.Step.{Step}
pub use Rattle.wide_slice.specs.Goods.{IsInside}
use Rattle.wide_slice.specs.Values.{sum_at}

-- the step is in the set
abbrev pub HasStep : (ℕ → ℕ → Bool) → Step → Type 0
HasStep set step = IsTrue (set step.process step.count)

-- with each of its steps the set has those in the step's past
abbrev pub IsClosedSet : List Step → (ℕ → ℕ → Bool) → Type 0
IsClosedSet steps set =
    (f e : ℕ) → f < length steps → e < length steps → IsPast steps f e → HasStep set (step_at steps e)
    → HasStep set (step_at steps f)

-- what the steps of a set add together
abbrev pub weight_of : (ℕ → ℕ → Bool) → List Step → ℤ
weight_of set [] = pos 0
weight_of set (step ∷ steps) = cond (set step.process step.count) step.weight (pos 0) +ℤ weight_of set steps

-- the past of each step of the set is within these counts
abbrev pub ArePastsWithin : List Step → (ℕ → ℕ → Bool) → List ℕ → Type 0
ArePastsWithin steps set bound =
    (e : ℕ) → e < length steps → HasStep set (step_at steps e) → IsWithin (step_at steps e).past.now bound

-- The steps from the least cut of the slice, each with what it adds to a sum: the set of the steps up to a cut of the
-- slice is closed and adds no less than the cut does, and for each closed set there is a cut that adds as much.
pub record AreStepsOf (c : Computation) (good : ℕ → ℕ → Bool) (values : List (Vec ℤ Global)) (least : List ℕ)
    (steps : List Step) : Type 0 where
  pub few : length steps ≤ step_limit
  pub small : (i : ℕ) → i < length steps → unsigned_abs (step_at steps i).weight < size_limit
  pub there : (i : ℕ) → i < length steps → (step_at steps i).process < length c
  pub one_each : (i : ℕ) → i < length steps → length (step_at steps i).past.now ≡ length c
  -- a step's own count stands in its past
  pub own : (i : ℕ) → i < length steps
      → slice_index (step_at steps i).past.now (step_at steps i).process ≡ (step_at steps i).count
  -- what is in the past of a step in the past is in the past
  pub transitive : (f e : ℕ) → f < length steps → e < length steps → IsPast steps f e
      → IsWithin (step_at steps f).past.now (step_at steps e).past.now
  -- the steps of a process stand in the order of their counts, each of which comes once
  pub ordered : (i j : ℕ) → i < j → j < length steps → (step_at steps i).process ≡ (step_at steps j).process
      → (step_at steps i).count < (step_at steps j).count
  pub after_least : (i : ℕ) → i < length steps → IsWithin least (step_at steps i).past.now
  pub to_cut : (set : ℕ → ℕ → Bool) → IsClosedSet steps set → (bound : List ℕ) → IsWithin least bound
      → ArePastsWithin steps set bound
      → (cut : List ℕ) × IsInside c good cut × IsWithin cut bound
      × (sum_at values cut ≡ sum_at values least +ℤ weight_of set steps)
  pub from_cut : (cut : List ℕ) → IsInside c good cut
      → (set : ℕ → ℕ → Bool) × IsClosedSet steps set × ArePastsWithin steps set cut
      × (sum_at values cut ≤ℤ (sum_at values least +ℤ weight_of set steps))
