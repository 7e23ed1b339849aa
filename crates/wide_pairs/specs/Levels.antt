-- The levels that have avoiding cuts. `test` says whether a cut satisfies.
use Rattle.std.specs.Prelude.{◌≡◌, ℕ, ◌+◌, ◌<◌, ◌≤◌, Bool, true, false, Option, Some, None, List, slice_index, sum}
use Rattle.wide_pairs.specs.Mosts.{IsMostWithin}
use Rattle.def_model.specs.Events.{Computation}
use Rattle.def_model.specs.Observations.{IsAvoiding}

-- the greatest number from low on, before end, at which this is true, or none
abbrev pub IsLastTrue : (ℕ → Bool) → ℕ → ℕ → Option ℕ → Type 0
IsLastTrue has low end (Some j) =
    (low ≤ j) × (j < end) × (has j ≡ true) × ((k : ℕ) → j < k → k < end → has k ≡ false)
IsLastTrue has low end None = (k : ℕ) → low ≤ k → k < end → has k ≡ false

-- the avoiding cuts with fewer than n events of process p have fewer events than this level, and one has just one fewer
pub record IsLevelAbove (c : Computation) (test : List ℕ → Bool) (p n level : ℕ) : Type 0 where
  pub above : (cut : List ℕ) → IsAvoiding c test (sum cut) cut → slice_index cut p < n → sum cut < level
  pub next : 0 < level → (cut : List ℕ) × IsAvoiding c test (sum cut) cut × (sum cut + 1 ≡ level)

-- the level after that of the greatest cut with i and j events at most, or 0 if there is no j
abbrev pub IsRowLevel : Computation → ℕ → ℕ → ℕ → Option ℕ → ℕ → Type 0
IsRowLevel c p q i None level = level ≡ 0
IsRowLevel c p q i (Some j) level = (cut : List ℕ) × IsMostWithin c p q i j cut × (level ≡ sum cut + 1)
