-- What the loop of `rows_of` keeps.
use Rattle.std.proofs.Common.{◌≤◌, length}
use Rattle.wide_pairs.specs.Avoiding.{test_of_pairs}
use Rattle.wide_pairs.specs.Grids.{AreRows}
use Rattle.wide_pairs.specs.Rows.{AreUpTo}
use Rattle.wide_pairs.proofs.grid.rows_of.Given as goal

abbrev pub invariant-loop-i : goal.invariant-loop-i
invariant-loop-i g l = record {
  rows : AreRows l.computation.events (test_of_pairs (g.G.GoodPairs.good l.wanted) l.p l.q) l.p l.q l.i l.rows.items;
  within : l.end ≤ length l.backs;
  before : AreUpTo l.backs l.i l.end;
}
