-- What the variables that a predicate names are worth.
use Rattle.std.specs.Prelude.{ℕ, zero, suc, ℤ, if◌then◌else◌, List, [], ◌∷◌, ◌++◌}
use Rattle.def_model.specs.Predicates.{Predicate}
use Rattle.judge_facts.specs.Named.{names_variable}

-- those of the process's variables with the numbers below n that the predicate names, in their order, each with its
-- value at this state
abbrev pub named_values : Predicate → (ℕ → ℕ → ℤ) → (process n : ℕ) → List (ℕ × ℤ)
named_values predicate state process zero = []
named_values predicate state process (suc n) =
    named_values predicate state process n
    ++ (if names_variable process n predicate then (n, state process n) ∷ [] else [])
