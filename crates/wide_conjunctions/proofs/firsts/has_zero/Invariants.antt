-- What the loop of `has_zero` keeps.
use Rattle.std.proofs.Common.{ℕ, ◌<◌, get_or}
use Rattle.wide_conjunctions.proofs.firsts.has_zero.Given as goal

abbrev pub invariant-loop-q : goal.invariant-loop-q
invariant-loop-q l = (k : ℕ) → k < l.q → 0 < get_or l.firsts k 0
