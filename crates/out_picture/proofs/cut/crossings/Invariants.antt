-- What the loop of `crossings` keeps.
use Rattle.std.proofs.Common.{◌≡◌}
use Rattle.out_picture.specs.Layout.{upto}
use Rattle.out_picture.specs.Pictures.{cut_points}
use Rattle.out_picture.specs.Tables.{column_at}
use Rattle.out_picture.proofs.cut.crossings.Given as goal

abbrev pub invariant-loop-p : goal.invariant-loop-p
invariant-loop-p l = l.points.items ≡ upto (cut_points l.window (column_at l.rows) l.counts) l.p
