-- The greater of two counts for each process so far.
use Rattle.std.proofs.Common.{◌≡◌, ℕ, ◌<◌, length, max, get_or}
use Rattle.std.specs.Prelude.{option_map}
use Rattle.pd_match.specs.Views.{place_view}
use Rattle.pd_clock.specs.Orders.{count_of}
use Rattle.judge_orders.proofs.rank_table.next_row.Given as goal

abbrev pub invariant-loop-q : goal.invariant-loop-q
invariant-loop-q l = record {
  room : length l.row ≡ length l.numbers;
  so_far : (k : ℕ) → k < l.q → get_or l.row k 0
      ≡ max (count_of (length l.table.done.items) l.table.rows.items (option_map place_view l.previous) k)
      (count_of (length l.table.done.items) l.table.rows.items (option_map place_view l.send) k);
}
