-- A chain that goes on is longer.
use Rattle.out_picture.proofs.ColumnLaws.{stand_right}
use Rattle.out_picture.proofs.columns.columns_stand_right.Goals as goal

pub returns : goal.returns
returns c = stand_right
