-- The words of the counts so far.
use Rattle.std.proofs.Common.{◌≡◌, ℕ, ◌<◌, ◌+ℤ◌, length, get_or}
use Rattle.walk_tables.specs.Rows.{IsSingle}
use Rattle.walk_tables.specs.Tables.{table_at}
use Rattle.walk_tables.specs.Zero.{compares_with_zero}
use Rattle.walk_tables.proofs.row.ClauseRow.of_truths.Given as goal

abbrev pub invariant-loop-n : goal.invariant-loop-n
invariant-loop-n l = record {
  long : length l.words.items ≡ l.n;
  done : (k : ℕ) → k < l.n
      → IsSingle (compares_with_zero l.comparison (l.rest +ℤ table_at l.table k)) (get_or l.words.items k 0);
}
