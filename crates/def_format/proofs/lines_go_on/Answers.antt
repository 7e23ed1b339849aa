-- The lines of more bytes begin with the lines of these.
use Rattle.def_format.proofs.LineFacts.{lines_go_on_lem}
use Rattle.def_format.proofs.lines_go_on.Goals as goal

pub returns : goal.returns
returns c = lines_go_on_lem
