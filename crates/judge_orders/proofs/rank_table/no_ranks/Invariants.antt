-- The tables so far have no row.
use Rattle.std.proofs.Common.{◌≡◌, ℕ, length, [], replicate}
use Rattle.judge_orders.specs.RankTables.{rows_of}
use Rattle.judge_orders.proofs.rank_table.no_ranks.Given as goal

abbrev pub invariant-loop-process : goal.invariant-loop-process
invariant-loop-process l = record {
  none : l.done.items ≡ replicate (length l.traces) 0;
  one_each : length l.rows.items ≡ l.process-index;
  empty : (p : ℕ) → rows_of l.rows.items p ≡ [];
}
