-- The processes so far have no more.
use Rattle.judge_orders.specs.KeptRuns.{AreWithinLimit}
use Rattle.judge_orders.specs.Lists.{lists_view}
use Rattle.judge_orders.proofs.long_order.are_within_limit.Given as goal

abbrev pub invariant-loop-of_process : goal.invariant-loop-of_process
invariant-loop-of_process l = AreWithinLimit (lists_view l.numbers) l.of_process-index
