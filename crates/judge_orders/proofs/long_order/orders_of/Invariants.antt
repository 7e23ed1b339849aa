-- What is seen of the processes so far, and the parts of the others.
use Rattle.std.proofs.Common.{◌≡◌, ◌+◌, ◌++◌, length, map}
use Rattle.judge_orders.specs.KeptRuns.{orders_with, values_view}
use Rattle.judge_orders.specs.Lists.{lists_view}
use Rattle.judge_orders.specs.OrderViews.{process_view}
use Rattle.judge_orders.proofs.long_order.orders_of.Given as goal

abbrev pub invariant-loop-process : goal.invariant-loop-process
invariant-loop-process l = record {
  left : length l.values.items + l._process ≡ length l.fn.values.items;
  same : length l.values.items ≡ length l.known.items;
  made : map process_view l.orders.items ++ orders_with (values_view l.values.items) (lists_view l.known.items)
      ≡ orders_with (values_view l.fn.values.items) (lists_view l.fn.known.items);
}
