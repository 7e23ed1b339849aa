-- The places that are left come before the last one that was looked at.
use Rattle.std.proofs.Common.{◌≤◌, length}
use Rattle.judge_shared.proofs.orders.place_from.Given as goal

abbrev pub invariant-loop-next : goal.invariant-loop-next
invariant-loop-next l = l.end ≤ length l.entries

abbrev pub decreases-loop-next : goal.decreases-loop-next
decreases-loop-next l = l.end
