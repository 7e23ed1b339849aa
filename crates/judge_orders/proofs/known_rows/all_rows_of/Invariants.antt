-- The processes so far have the rows of their kept events.
use Rattle.std.proofs.Common.{◌≡◌, ◌<◌, ℕ, [], length}
use Rattle.std.specs.Prelude.{flat_map, slice_index_or}
use Rattle.judge_orders.specs.Lists.{lists_view}
use Rattle.judge_orders.specs.RankTables.{row_at}
use Rattle.judge_orders.proofs.known_rows.all_rows_of.Given as goal

abbrev pub invariant-loop-p : goal.invariant-loop-p
invariant-loop-p l = record {
  many : length l.known.items ≡ l.p;
  rows : (k : ℕ) → k < l.p → slice_index_or (lists_view l.known.items) k []
      ≡ flat_map (row_at (length l.numbers) (slice_index_or (lists_view l.rows) k []))
      (slice_index_or (lists_view l.numbers) k []);
}
