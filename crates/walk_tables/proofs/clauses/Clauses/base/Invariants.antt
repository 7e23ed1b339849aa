-- The bits of the columns so far.
use Rattle.std.proofs.Common.{◌≡◌, ℕ, drop, ◌||◌}
use Rattle.walk_keys.specs.Words.{has_bit}
use Rattle.walk_tables.specs.Rows.{columns_have}
use Rattle.walk_tables.proofs.clauses.Clauses.base.Given as goal

abbrev pub invariant-loop-column : goal.invariant-loop-column
invariant-loop-column l =
    (j : ℕ) → (has_bit l.word j || columns_have (drop l.column-index l.column-items) l.prefix j)
    ≡ columns_have l.self.columns.items l.prefix j
