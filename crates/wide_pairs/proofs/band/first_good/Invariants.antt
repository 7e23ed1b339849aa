-- What the loop of `first_good` keeps: none is good so far.
use Rattle.std.proofs.Common.{◌≡◌, ℕ, ◌-◌, ◌<◌, ◌≤◌, false}
use Rattle.wide_pairs.proofs.band.first_good.Given as goal

abbrev pub invariant-loop-j : goal.invariant-loop-j
invariant-loop-j g l = record {
  from : l.low ≤ l.j;
  none : (k : ℕ) → l.low ≤ k → k < l.j → g.G.GoodPairs.good l.wanted l.i k ≡ false;
}

abbrev pub decreases-loop-j : goal.decreases-loop-j
decreases-loop-j g l = l.end - l.j
