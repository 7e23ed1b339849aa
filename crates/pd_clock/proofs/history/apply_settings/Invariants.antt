-- What the loops of `apply_settings` keep.
use Rattle.std.proofs.Common.{◌≡◌, drop, length}
use Rattle.pd_clock.specs.Histories.{row_after}
use Rattle.pd_clock.proofs.history.apply_settings.Given as goal

abbrev pub invariant-loop-i : goal.invariant-loop-i
invariant-loop-i l = record {
  width : length l.row.items ≡ length l.fn.row.items;
  so_far : row_after l.row.items (drop l.i l.settings) ≡ row_after l.fn.row.items l.settings;
}
