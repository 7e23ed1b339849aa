-- What is seen of the processes so far.
use Rattle.std.proofs.Common.{◌≡◌, length, map}
use Rattle.judge_orders.specs.Lists.{lists_view}
use Rattle.judge_orders.specs.OrderViews.{AllSeen, process_view}
use Rattle.judge_orders.proofs.seen.process_orders.Given as goal

abbrev pub invariant-loop-p : goal.invariant-loop-p
invariant-loop-p l = record {
  many : length l.orders.items ≡ l.p;
  seen : AllSeen l.computation (lists_view l.named) (lists_view l.numbers) (map process_view l.orders.items) l.p;
}
