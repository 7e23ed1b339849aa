-- What the loop over the columns keeps: the least and the greatest so far.
use Rattle.std.proofs.Common.{drop, ◌≤◌, ℕ, ◌+◌, ◌*◌, ◌+ℤ◌, List, ◌≤ℤ◌}
use Rattle.walk_tables.specs.Zero.{part_limit}
use Rattle.walk_tables.specs.Tables.{columns_value}
use Rattle.std.specs.Int.RustNames.{unsigned_abs}
use Rattle.walk_tables.proofs.linear.Linear.range.Given as goal

abbrev pub invariant-loop-column : goal.invariant-loop-column
invariant-loop-column l = record {
  least : (prefix : List ℕ) → (l.least +ℤ columns_value (drop l.column-index l.column-items) prefix)
      ≤ℤ (l.self.constant +ℤ columns_value l.self.columns.items prefix);
  greatest : (prefix : List ℕ) → (l.self.constant +ℤ columns_value l.self.columns.items prefix)
      ≤ℤ (l.greatest +ℤ columns_value (drop l.column-index l.column-items) prefix);
  low : unsigned_abs l.least ≤ (l.column-index + 1) * part_limit;
  high : unsigned_abs l.greatest ≤ (l.column-index + 1) * part_limit;
}
