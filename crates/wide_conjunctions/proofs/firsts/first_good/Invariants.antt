-- What the loop of `first_good` keeps.
use Rattle.std.proofs.Common.{◌≡◌, ℕ, ◌<◌, false}
use Rattle.wide_conjunctions.proofs.firsts.first_good.Given as goal

abbrev pub invariant-loop-count : goal.invariant-loop-count
invariant-loop-count g l = (m : ℕ) → m < l.count → g.G.GoodCounts.good l.wanted l.p m ≡ false
