-- Which processes a predicate names.
use Rattle.std.specs.Prelude.{◌≡◌, ℕ, ◌<◌, Bool, false, List, length, slice_index_or}
use Rattle.def_model.specs.Predicates.{Predicate}
use Rattle.def_wide.specs.DeadEnds.{predicate_names}

-- the list says of each of so many processes whether the predicate names it
pub record AreNames (predicate : Predicate) (processes : ℕ) (names : List Bool) : Type 0 where
  pub count : length names ≡ processes
  pub each : (p : ℕ) → p < processes → slice_index_or names p false ≡ predicate_names p predicate
