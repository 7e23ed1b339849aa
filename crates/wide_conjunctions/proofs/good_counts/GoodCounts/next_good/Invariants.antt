-- What the loop of `next_good` keeps.
use Rattle.std.proofs.Common.{◌≡◌, ℕ, ◌<◌, ◌≤◌, false}
use Rattle.wide_conjunctions.proofs.good_counts.GoodCounts.next_good.Given as goal

abbrev pub invariant-loop-count : goal.invariant-loop-count
invariant-loop-count g l = (m : ℕ) → l.from ≤ m → m < l.count → g.Self.GoodCounts.good l.self l.process m ≡ false
