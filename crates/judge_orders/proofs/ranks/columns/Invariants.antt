-- The columns so far.
use Rattle.std.proofs.Common.{◌≡◌, length}
use Rattle.judge_orders.specs.Lists.{lists_view}
use Rattle.judge_orders.specs.Ranked.{HaveColumns}
use Rattle.judge_orders.proofs.ranks.columns.Given as goal

abbrev pub invariant-loop-p : goal.invariant-loop-p
invariant-loop-p l = record {
  many : length l.columns.items ≡ l.p;
  columns : HaveColumns l.computation.events (lists_view l.numbers) (lists_view l.columns.items) l.p;
}
