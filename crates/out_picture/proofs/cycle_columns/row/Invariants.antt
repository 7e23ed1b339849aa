-- What the loop of `row` keeps.
use Rattle.std.proofs.Common.{◌≡◌}
use Rattle.out_picture.specs.Cycles.{cycle_row}
use Rattle.out_picture.proofs.cycle_columns.row.Given as goal

abbrev pub invariant-loop-n : goal.invariant-loop-n
invariant-loop-n l = l.row.items ≡ cycle_row l.shift l.n
