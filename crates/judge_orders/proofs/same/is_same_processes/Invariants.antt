-- The same is seen of the processes so far.
use Rattle.std.proofs.Common.{◌≡◌, map, take}
use Rattle.judge_orders.specs.OrderViews.{process_view}
use Rattle.judge_orders.proofs.same.is_same_processes.Given as goal

abbrev pub invariant-loop-i : goal.invariant-loop-i
invariant-loop-i l = map process_view (take l.i l.first) ≡ map process_view (take l.i l.second)
