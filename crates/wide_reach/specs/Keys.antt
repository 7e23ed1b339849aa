-- By what number steps are put in order: by that of their pasts, if these are within a bound.
use Rattle.std.specs.Prelude.{◌≡◌, ℕ, ◌+◌, ◌*◌, ◌<◌, ◌⊎◌, cond, nat_lt, List, length, Option, Some, None, slice_index}
use Rattle.std.specs.List.Sorted.{IsNonDecreasingBy, IsPermutation}
use Rattle.def_model.specs.Lattice.{IsWithin}
use Rattle.def_wide.specs.Heights.{height}
use Rattle.wide_flow.specs.Steps.{step_at}
use Rattle.wide_flow.specs.declared.step.Step.{Step}
use Rattle.wide_reach.specs.declared.key.Key.{Key}
use Rattle.wide_reach.specs.declared.key.Key.TheVariants.{Height, Count}

-- the number by which counts are compared
abbrev pub key_of : Key → List ℕ → ℕ
key_of Height counts = height counts
key_of (Count p) counts = slice_index counts p

-- the key is one of this many counts
abbrev pub IsKeyFor : ℕ → Key → Type 0
IsKeyFor n Height = Unit {0}
IsKeyFor n (Count p) = p < n

-- the number of a step whose past isn't within the bound: it is above all others
abbrev pub outside : ℕ
outside = 65536

-- the key, unless it is that one
abbrev pub inside_of : Option ℕ → Option ℕ
inside_of None = None
inside_of (Some k) = cond (nat_lt k outside) (Some k) None

-- the number of a past within the bound is less, and another past has this one
abbrev pub IsOrderKey : List ℕ → Key → List ℕ → ℕ → Type 0
IsOrderKey bound key past k =
    (IsWithin past bound × (k ≡ key_of key past) × (k < outside)) ⊎ ((¬ IsWithin past bound) × (k ≡ outside))

-- the same step with that key
pub record IsKeyed (bound : List ℕ) (key : Key) (step keyed : Step) : Type 0 where
  pub same : keyed ≡ record step { key = keyed.key }
  pub ordered_by : IsOrderKey bound key step.past.now keyed.key
  pub small : keyed.count < outside

-- the same steps with these keys
pub record AreKeyed (bound : List ℕ) (key : Key) (steps keyed : List Step) : Type 0 where
  pub one_each : length keyed ≡ length steps
  pub each : (i : ℕ) → i < length steps → IsKeyed bound key (step_at steps i) (step_at keyed i)

-- the number by which steps are sorted: by the key, and those with the same key by the count
abbrev pub rank : Step → ℕ
rank step = step.key * outside + step.count

-- the same steps in the order of their keys
pub record AreInOrder (bound : List ℕ) (key : Key) (steps sorted : List Step) : Type 0 where
  pub keyed : List Step
  pub are_keyed : AreKeyed bound key steps keyed
  pub permutation : IsPermutation keyed sorted
  pub ascending : IsNonDecreasingBy rank sorted
