-- What the loop over the columns keeps: the sum so far.
use Rattle.std.proofs.Common.{drop, ◌≡◌, ◌≤◌, ◌+◌, ◌*◌, ◌+ℤ◌}
use Rattle.walk_tables.specs.Zero.{part_limit}
use Rattle.walk_tables.specs.Tables.{columns_value}
use Rattle.std.specs.Int.RustNames.{unsigned_abs}
use Rattle.walk_tables.proofs.linear.Linear.base.Given as goal

abbrev pub invariant-loop-column : goal.invariant-loop-column
invariant-loop-column l = record {
  sum : l.total +ℤ columns_value (drop l.column-index l.column-items) l.prefix
      ≡ l.self.constant +ℤ columns_value l.self.columns.items l.prefix;
  small : unsigned_abs l.total ≤ (l.column-index + 1) * part_limit;
}
