-- What the loop of `last_free` keeps.
use Rattle.std.proofs.Common.{◌≤◌}
use Rattle.wide_flow.proofs.free.last_free.Given as goal

abbrev pub invariant-loop-last : goal.invariant-loop-last
invariant-loop-last l = l.last ≤ l.many

abbrev pub decreases-loop-last : goal.decreases-loop-last
decreases-loop-last l = l.last
