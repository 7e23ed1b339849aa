-- What is kept of the processes so far.
use Rattle.std.proofs.Common.{◌≡◌, length}
use Rattle.judge_orders.specs.KeptRuns.{HaveKept, values_view}
use Rattle.judge_orders.specs.Lists.{lists_view}
use Rattle.pd_clock.specs.Computations.{initial_view, recorded_view}
use Rattle.judge_orders.proofs.long_order.traces_kept.Given as goal

abbrev pub invariant-loop-p : goal.invariant-loop-p
invariant-loop-p l = record {
  many : length l.numbers.items ≡ l.p;
  many_values : length l.values.items ≡ l.p;
  kept : HaveKept (recorded_view (initial_view l.initial') l.traces) (lists_view l.named) (lists_view l.numbers.items)
      (values_view l.values.items) l.p;
}
