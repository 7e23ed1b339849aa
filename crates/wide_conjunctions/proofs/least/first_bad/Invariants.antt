-- What the loop of `first_bad` keeps.
use Rattle.std.proofs.Common.{◌≡◌, ℕ, ◌<◌, true, get_or}
use Rattle.wide_conjunctions.proofs.least.first_bad.Given as goal

abbrev pub invariant-loop-p : goal.invariant-loop-p
invariant-loop-p g l = (q : ℕ) → q < l.p → g.G.GoodCounts.good l.wanted q (get_or l.counts q 0) ≡ true
