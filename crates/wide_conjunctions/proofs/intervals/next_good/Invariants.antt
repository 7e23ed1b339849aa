-- What the loop of `next_good` keeps.
use Rattle.std.proofs.Common.{◌≡◌, ℕ, ◌<◌, ◌≤◌, false}
use Rattle.wide_conjunctions.proofs.intervals.next_good.Given as goal

abbrev pub invariant-loop-count : goal.invariant-loop-count
invariant-loop-count g l = (n : ℕ) → l.from ≤ n → n < l.count → g.G.GoodCounts.good l.wanted l.p n ≡ false
