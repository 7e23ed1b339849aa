-- The variables of the processes so far are the same.
use Rattle.std.proofs.Common.{◌≡◌, take}
use Rattle.judge_orders.specs.Lists.{lists_view}
use Rattle.judge_orders.proofs.same.is_same_named.Given as goal

abbrev pub invariant-loop-i : goal.invariant-loop-i
invariant-loop-i l = lists_view (take l.i l.first) ≡ lists_view (take l.i l.second)
