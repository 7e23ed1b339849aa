-- Births as they are collected, and as they are sorted.
use Rattle.std.specs.Prelude.{◌≡◌, ◌⊎◌, ℕ, ◌<◌, ◌≤◌, List, [], ◌∷◌, ◌++◌, Contains, length, map, slice_index, Vec}
use Rattle.std.specs.Global.{Global}
use Rattle.walk_runs.specs.Kept.{KeyedBirth, cuts_of}

-- what stands in the lists, one after another
abbrev pub births_in : {A : Type 0} → (A → KeyedBirth) → List (Vec A Global) → List KeyedBirth
births_in view [] = []
births_in view (list ∷ rest) = map view list.items ++ births_in view rest

-- the new list has what the old one has, and this birth
pub record HasOneMore (old : List KeyedBirth) (added : KeyedBirth) (new : List KeyedBirth) : Type 0 where
  pub kept : (z : KeyedBirth) → Contains old z → Contains new z
  pub here : Contains new added
  pub just : (z : KeyedBirth) → Contains new z → Contains old z ⊎ (added ≡ z)

-- the list has the same births, and their cuts ascend
pub record IsSortedOf (all sorted : List KeyedBirth) : Type 0 where
  pub there : (z : KeyedBirth) → Contains all z → Contains sorted z
  pub back : (z : KeyedBirth) → Contains sorted z → Contains all z
  pub ascends : (i j : ℕ) → i ≤ j → j < length (cuts_of sorted)
      → slice_index (cuts_of sorted) i ≤ slice_index (cuts_of sorted) j
