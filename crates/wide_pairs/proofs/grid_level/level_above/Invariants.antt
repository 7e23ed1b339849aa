-- What the loop of `level_above` keeps.
use Rattle.std.proofs.Common.{◌≤◌, length}
use Rattle.wide_pairs.specs.Avoiding.{test_of_pairs}
use Rattle.wide_pairs.specs.Levels.{IsLevelAbove}
use Rattle.wide_pairs.specs.Rows.{AreUpTo}
use Rattle.wide_pairs.proofs.grid_level.level_above.Given as goal

abbrev pub invariant-loop-i : goal.invariant-loop-i
invariant-loop-i g l = record {
  above : IsLevelAbove l.computation.events (test_of_pairs (g.G.GoodPairs.good l._wanted) l.p l.q) l.p l.i l.level;
  within : l.end ≤ length l.backs;
  before : AreUpTo l.backs l.i l.end;
}
