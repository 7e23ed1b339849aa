-- What the loop of `is_within` keeps.
use Rattle.std.proofs.Common.{ℕ, ◌<◌, ◌≤◌, get_or}
use Rattle.wide_reach.proofs.key.is_within.Given as goal

abbrev pub invariant-loop-p : goal.invariant-loop-p
invariant-loop-p l = (q : ℕ) → q < l.p → get_or l.counts q 0 ≤ get_or l.bound q 0
