-- What is placed and what remains make the same clauses true.
use Rattle.std.proofs.Common.{◌≡◌, ℕ, ◌<◌, List, ◌||◌, vec_len}
use Rattle.walk_tables.specs.Rows.{columns_have, moved}
use Rattle.walk_tables.proofs.clause_column.columns_with.Given as goal

abbrev pub invariant-loop-column : goal.invariant-loop-column
invariant-loop-column l =
    (counts : List ℕ) (j : ℕ) → j < 64
    → (columns_have l.all.items counts j || moved l.by (columns_have l.rest.items counts) j)
    ≡ (columns_have l.initial.all.items counts j || moved l.by (columns_have l.initial.rest.items counts) j)

abbrev pub decreases-loop-column : goal.decreases-loop-column
decreases-loop-column l = vec_len l.rest
