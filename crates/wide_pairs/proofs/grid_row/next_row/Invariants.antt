-- What the loop of `next_row` keeps.
use Rattle.std.proofs.Common.{◌≡◌, ◌+◌, ◌*◌, min, length}
use Rattle.wide_pairs.specs.Grids.{IsFilled, row_has}
use Rattle.wide_pairs.proofs.Filled.{before_word}
use Rattle.wide_pairs.proofs.grid_row.next_row.Given as goal

abbrev pub invariant-loop-number : goal.invariant-loop-number
invariant-loop-number g l = record {
  at : l.first + length l.words.items ≡ l.number;
  left : l.left ≡ before_word l.first l.words.items l.start l.number;
  filled : IsFilled (g.G.GoodPairs.good l.wanted l.i) (row_has l.above.first l.above.words.items)
      (row_has l.first l.words.items) l.start l.low (min l.end (l.number * 64));
}
