-- What the loops of `history` keep.
use Rattle.std.proofs.Common.{◌≡◌, ◌++◌, drop, length}
use Rattle.pd_clock.specs.Histories.{rows_after}
use Rattle.pd_clock.proofs.history.history.Given as goal

abbrev pub invariant-loop-k : goal.invariant-loop-k
invariant-loop-k l = record {
  width : length l.row.items ≡ length l.start;
  so_far : l.values ++ rows_after l.row.items (drop l.k l.events) ≡ l.start ++ rows_after l.start l.events;
}
