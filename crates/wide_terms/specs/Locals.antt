-- Predicates of which each comparison speaks of one process at most, and how many terms they have.
use Rattle.std.specs.Prelude.{◌≡◌, ℕ, List, [], ◌∷◌, Option, Some, None}
use Rattle.def_model.specs.Predicates.{Sign, Term, Number, Variable, Times, Comparison, Predicate, Compare}

-- the first process that a sum names
abbrev pub first_named : List (Sign × Term) → Option ℕ
first_named [] = None
first_named ((sign, Number n) ∷ rest) = first_named rest
first_named ((sign, Variable p v) ∷ rest) = Some p
first_named ((sign, Times n p v) ∷ rest) = Some p

-- the first that the first of two sums names, else the first of the second
abbrev pub or_first : Option ℕ → Option ℕ → Option ℕ
or_first (Some p) other = Some p
or_first None other = other

abbrev pub first_of_both : List (Sign × Term) → List (Sign × Term) → Option ℕ
first_of_both left right = or_first (first_named left) (first_named right)

-- the predicate compares these two sums
abbrev pub IsComparisonOf : Predicate → List (Sign × Term) → List (Sign × Term) → Type 0
IsComparisonOf predicate left right = (comparison : Comparison) × (predicate ≡ Compare left comparison right)
