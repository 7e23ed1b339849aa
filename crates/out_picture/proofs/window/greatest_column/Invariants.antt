-- What the loop of `greatest_column` keeps.
use Rattle.std.proofs.Common.{◌≡◌, get_or}
use Rattle.out_picture.specs.Layout.{greatest_column}
use Rattle.out_picture.specs.Tables.{column_at}
use Rattle.out_picture.proofs.window.greatest_column.Given as goal

abbrev pub invariant-loop-p : goal.invariant-loop-p
invariant-loop-p l = l.greatest ≡ greatest_column (column_at l.rows) (λ p. get_or l.counts p 0) l.p
