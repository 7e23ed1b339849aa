-- What the loop of `widest_column` keeps.
use Rattle.std.proofs.Common.{◌≡◌, ◌-◌, length}
use Rattle.out_picture.specs.Layout.{greatest_column}
use Rattle.out_picture.specs.Tables.{column_at, row_of}
use Rattle.out_picture.proofs.window.widest_column.Given as goal

abbrev pub invariant-loop-p : goal.invariant-loop-p
invariant-loop-p l = l.widest ≡ greatest_column (column_at l.rows) (λ p. length (row_of l.rows p) - 1) l.p
