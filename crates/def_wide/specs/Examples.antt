-- Predicates on which the definitions are tried.
use Rattle.std.specs.Prelude.{false, ℕ, ◌<◌, [], ◌∷◌, length}
use Rattle.def_model.specs.Decided.{DecidesPossibly}
use Rattle.def_model.specs.Predicates.{Predicate, Compare, Number, Variable, Differs, Equals, IsAtLeast, Plus, Not, And, Or, Recorded}
use Rattle.def_wide.specs.Decided.{IsPossiblyDecided}
use Rattle.def_wide.specs.Parts.{PartsDecide}
use Rattle.def_wide.specs.Sums.{IsDecidedBySums}

-- the first variables of two processes differ
abbrev pub differ : ℕ → ℕ → Predicate
differ p q = Compare ((Plus, Variable p 0) ∷ []) Differs ((Plus, Variable q 0) ∷ [])

-- they are equal
abbrev pub agree : ℕ → ℕ → Predicate
agree p q = Compare ((Plus, Variable p 0) ∷ []) Equals ((Plus, Variable q 0) ∷ [])

-- Whether some two of three processes can differ is decided, in both ways to say so, and by their parts alone.
abbrev pub SomeTwoDiffer : Type 0
SomeTwoDiffer =
    (r : Recorded) → 2 < length r.events
    → IsPossiblyDecided r (Or (Or (differ 0 1) (differ 1 2)) (differ 0 2))
    × IsPossiblyDecided r (Not (And (agree 0 1) (agree 1 2)))
    × (¬ DecidesPossibly r (Or (Or (differ 0 1) (differ 1 2)) (differ 0 2)))

-- Whether all of them can be equal isn't decided by its parts.
abbrev pub AllEqual : Type 0
AllEqual = (r : Recorded) → ¬ PartsDecide false r (And (agree 0 1) (agree 1 2))

-- the first variables of three processes add up to this number or more
abbrev pub reach : ℕ → Predicate
reach n =
    Compare ((Plus, Variable 0 0) ∷ (Plus, Variable 1 0) ∷ (Plus, Variable 2 0) ∷ []) IsAtLeast
    ((Plus, Number n) ∷ [])

-- Whether a sum of three processes can reach a number is decided by sums, and by its parts it isn't.
abbrev pub SumReaches : Type 0
SumReaches =
    (r : Recorded) (n : ℕ) → 2 < length r.events
    → IsDecidedBySums r (reach n) × (¬ PartsDecide false r (reach n))
