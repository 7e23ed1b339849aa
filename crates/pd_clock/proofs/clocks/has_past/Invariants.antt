-- What the loops of `has_past` keep.
use Rattle.std.proofs.Common.{◌≢◌, ℕ, ◌+◌, ◌<◌, ◌≤◌, get_or}
use Rattle.pd_clock.proofs.clocks.has_past.Given as goal

abbrev pub invariant-loop-q : goal.invariant-loop-q
invariant-loop-q l = (k : ℕ) → k < l.q → k ≢ l.p → get_or l.clocks (l.start + k) 0 ≤ get_or l.counts k 0
