-- What is placed, what is held and what remains make the same clauses true.
use Rattle.std.proofs.Common.{◌≡◌, ℕ, List, ◌∷◌, ◌||◌, get_or, vec_len}
use Rattle.walk_tables.specs.Rows.{columns_have, row_has}
use Rattle.walk_tables.proofs.clause_column.placed.Given as goal

abbrev pub invariant-loop-other : goal.invariant-loop-other
invariant-loop-other l =
    (counts : List ℕ) (j : ℕ)
    → (columns_have l.all.items counts j
    || (row_has l.held.row (get_or counts l.held.process 0) j || columns_have l.rest.items counts j))
    ≡ columns_have (l.initial.held ∷ l.initial.rest.items) counts j

abbrev pub decreases-loop-other : goal.decreases-loop-other
decreases-loop-other l = vec_len l.rest
