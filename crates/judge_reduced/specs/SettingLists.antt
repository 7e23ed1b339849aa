-- What an event sets.
use Rattle.std.specs.Prelude.{◌≡◌, ℕ, ◌<◌, List, All, Contains, ℤ}
use Rattle.def_model.specs.Events.{Linked}
use Rattle.def_model.specs.Predicates.{after_sets}

-- The settings are of variables below k, which ascend, and set each of these variables to what it is worth.
pub record AreSettings (worth : ℕ → ℤ) (vars : List ℕ) (k : ℕ) (sets : List (ℕ × ℤ)) : Type 0 where
  pub ascend : Linked (λ (old new : ℕ × ℤ). old.0 < new.0) sets
  pub below : All (λ (set : ℕ × ℤ). set.0 < k) sets
  pub values : (v : ℕ) (old : ℤ) → Contains vars v → v < k → after_sets v old sets ≡ worth v
