-- The avoiding cuts of one level. `test` says whether a cut satisfies.
use Rattle.std.specs.Prelude.{◌≡◌, ℕ, Bool, List, [], ◌∷◌}
use Rattle.def_model.specs.Events.{Computation}
use Rattle.walk_back.specs.Ways.{IsAvoidingLevel}
use Rattle.pd_level.specs.Levels.{Levelled}

-- only the avoiding cuts of level k are held
abbrev pub IsAt : Computation → (List ℕ → Bool) → ℕ → List Levelled → Type 0
IsAt c test k levels = (level : Levelled) × (levels ≡ level ∷ []) × IsAvoidingLevel c test level × (level.number ≡ k)
