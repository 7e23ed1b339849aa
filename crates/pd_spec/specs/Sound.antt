-- What holds of the parts of each document.
use Rattle.std.specs.Prelude.{◌≡◌, ℕ, ◌≤◌, nat_le, ℤ, IsTrue, List, length, map}
use Rattle.std.specs.List.{list_all}
use Rattle.def_format.specs.Limits.{predicate_limit, var_limit, width_limit}
use Rattle.def_format.specs.Names.{ProcessNames, is_name}

-- the length of each row
abbrev pub lengths : {A : Type 0} → List (List A) → List ℕ
lengths rows = map (λ row. length row) rows

-- the lists of the processes' variables
abbrev pub vars_of_each : List ProcessNames → List (List (List ℕ))
vars_of_each names = map (λ (process : ProcessNames). process.vars) names

-- The processes and their variables, the rows of initial values, the predicates' names and the width are those of a
-- document.
pub record IsSound (names : List ProcessNames) (initial : List (List ℤ)) (predicates : List (List ℕ)) (width : ℕ) :
    Type 0 where
  pub some_process : 1 ≤ length names
  pub few_vars : IsTrue (list_all (λ (process : ProcessNames). nat_le (length process.vars) var_limit) names)
  -- a row for each process, and in it a value for each variable
  pub rows : lengths initial ≡ lengths (vars_of_each names)
  pub some_predicate : 1 ≤ length predicates
  pub few_predicates : length predicates ≤ predicate_limit
  pub process_names : IsTrue (list_all (λ (process : ProcessNames). is_name process.name) names)
  pub var_names : IsTrue (list_all (λ (process : ProcessNames). list_all is_name process.vars) names)
  pub predicate_names : IsTrue (list_all is_name predicates)
  pub some_width : 1 ≤ width
  pub small_width : width ≤ width_limit
