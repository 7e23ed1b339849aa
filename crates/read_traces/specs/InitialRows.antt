-- The initial values of a session's variables.
use Rattle.std.specs.Prelude.{◌≡◌, ℕ, ◌≤◌, List, [], length, slice_index_or}
use Rattle.def_format.specs.Names.{ProcessNames, vars_of}
use Rattle.def_model.specs.Predicates.{Initial}

-- one process or more; for each a row, with a value for each of its variables
pub record AreInitialRows (names : List ProcessNames) (initial : Initial) : Type 0 where
  pub some : 1 ≤ length names
  pub one_each : length initial ≡ length names
  pub values : (p : ℕ) → length (slice_index_or initial p []) ≡ length (vars_of names p)
