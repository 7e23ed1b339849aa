-- The counts so far.
use Rattle.std.proofs.Common.{◌≡◌, ◌<◌, ◌≤◌, ℕ, length, get_or}
use Rattle.def_orders.specs.Orders.{count_up_to}
use Rattle.judge_orders.specs.Ranked.{IsCountBelow}
use Rattle.judge_orders.proofs.ranks.column.Given as goal

abbrev pub invariant-loop-n : goal.invariant-loop-n
invariant-loop-n l = record {
  many : length l.column.items ≡ l.n;
  small : l.count ≤ l.n;
  below : IsCountBelow l.numbers l.n l.count;
  counts : (k : ℕ) → k < l.n → get_or l.column.items k 0 ≡ count_up_to l.numbers k;
}
