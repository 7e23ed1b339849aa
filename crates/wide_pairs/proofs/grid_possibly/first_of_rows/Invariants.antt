-- The first of the cuts so far, and how far the pasts of the second process are looked at.
use Rattle.std.proofs.Common.{◌≤◌, length}
use Rattle.wide_pairs.specs.FirstCuts.{IsFirstSoFar}
use Rattle.wide_pairs.specs.Rows.{AreUpTo}
use Rattle.wide_pairs.proofs.grid_possibly.first_of_rows.Given as goal

abbrev pub invariant-loop-i : goal.invariant-loop-i
invariant-loop-i g l = record {
  first : IsFirstSoFar l.computation.events (g.G.GoodPairs.good l.wanted) l.p l.q l.i l.first;
  within : l.end ≤ length l.backs;
  before : AreUpTo l.backs l.i l.end;
}
