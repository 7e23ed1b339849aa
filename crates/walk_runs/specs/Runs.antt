-- Which of the cuts that agree in all counts but the last two are consistent.
use Rattle.std.specs.Prelude.{◌≡◌, ℕ, ◌+◌, ◌≤◌, ◌↔◌, List}
use Rattle.def_model.specs.Events.{Computation}
use Rattle.def_model.specs.Cuts.{IsConsistent}
use Rattle.walk_keys.specs.Neighbors.{cut_at}

-- The prefix has a consistent cut whose last two counts have the sum s.
abbrev pub IsAliveAtSum : Computation → List ℕ → ℕ → Type 0
IsAliveAtSum c prefix s = (x : ℕ) × (y : ℕ) × (x + y ≡ s) × IsConsistent c (cut_at prefix x y)

-- Of the cuts with this prefix whose last two counts have the sum s, those with an x from lo to hi are consistent, and
-- no others. There is none where hi is less than lo.
pub record IsInterval (c : Computation) (prefix : List ℕ) (s lo hi : ℕ) : Type 0 where
  pub within : hi ≤ s
  pub just : (x y : ℕ) → x + y ≡ s → IsConsistent c (cut_at prefix x y) ↔ ((lo ≤ x) × (x ≤ hi))
