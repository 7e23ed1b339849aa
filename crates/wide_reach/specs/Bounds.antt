-- The least bounds within which a closed set of steps reaches a target.
use Rattle.std.specs.Prelude.{◌≡◌, ℕ, ◌<◌, ◌≤◌, Bool, List, length, pos, ◌≤ℤ◌, slice_index, unsigned_abs}
use Rattle.def_model.specs.Events.{Computation, event_count}
use Rattle.def_model.specs.Lattice.{IsWithin}
use Rattle.def_wide.specs.Heights.{IsLowerThan}
use Rattle.wide_flow.specs.Steps.{IsPast, size_limit, step_at, step_limit}
use Rattle.wide_flow.specs.declared.step.Step.{Step}
use Rattle.wide_slice.specs.Steps.{ArePastsWithin, HasStep, IsClosedSet, weight_of}
use Rattle.wide_reach.specs.Keys.{key_of}
use Rattle.wide_reach.specs.declared.key.Key.{Key}

-- the steps of this many processes, whatever their keys and their order
pub record AreUnordered (processes : ℕ) (steps : List Step) : Type 0 where
  pub few : length steps ≤ step_limit
  pub small : (i : ℕ) → i < length steps → unsigned_abs (step_at steps i).weight < size_limit
  pub there : (i : ℕ) → i < length steps → (step_at steps i).process < processes
  pub one_each : (i : ℕ) → i < length steps → length (step_at steps i).past.now ≡ processes
  -- a step's own count stands in its past
  pub own : (i : ℕ) → i < length steps
      → slice_index (step_at steps i).past.now (step_at steps i).process ≡ (step_at steps i).count
  -- what is in the past of a step in the past is in the past
  pub transitive : (f e : ℕ) → f < length steps → e < length steps → IsPast steps f e
      → IsWithin (step_at steps f).past.now (step_at steps e).past.now

-- a closed set of steps whose pasts are within the bound reaches the target
pub record IsEnough (steps : List Step) (target : ℕ) (bound : List ℕ) (set : ℕ → ℕ → Bool) : Type 0 where
  pub closed : IsClosedSet steps set
  pub within : ArePastsWithin steps set bound
  pub enough : pos target ≤ℤ weight_of set steps

-- there is one
abbrev pub Reaches : List Step → ℕ → List ℕ → Type 0
Reaches steps target bound = (set : ℕ → ℕ → Bool) × IsEnough steps target bound set

-- each step of the set has a past with this key or a lesser one
abbrev pub HasPastsUpTo : List Step → (ℕ → ℕ → Bool) → Key → ℕ → Type 0
HasPastsUpTo steps set key k =
    (e : ℕ) → e < length steps → HasStep set (step_at steps e) → key_of key (step_at steps e).past.now ≤ k

-- some closed set of such steps whose pasts are within the bound reaches the target
abbrev pub ReachesBy : List Step → ℕ → List ℕ → Key → ℕ → Type 0
ReachesBy steps target bound key k =
    (set : ℕ → ℕ → Bool) × IsEnough steps target bound set × HasPastsUpTo steps set key k

-- the least key for which there is one
pub record IsLeastKey (steps : List Step) (target : ℕ) (bound : List ℕ) (key : Key) (k : ℕ) : Type 0 where
  pub reached : ReachesBy steps target bound key k
  pub least : (j : ℕ) → j < k → ¬ ReachesBy steps target bound key j

-- The lowest bound, among those within `full`, within which a closed set of steps reaches the target.
pub record IsLowestBound (steps : List Step) (target : ℕ) (full bound : List ℕ) : Type 0 where
  pub one_each : length bound ≡ length full
  pub within : IsWithin bound full
  pub reaches : Reaches steps target bound
  pub lowest : (other : List ℕ) → length other ≡ length full → IsWithin other full → Reaches steps target other
      → ¬ (other ≡ bound) → IsLowerThan bound other

-- how many events each process has
pub record IsFull (c : Computation) (full : List ℕ) : Type 0 where
  pub one_each : length full ≡ length c
  pub each : (p : ℕ) → slice_index full p ≡ event_count c p
