-- Lines are read one after another, and what they give fits the session's names.
use Rattle.def_format.proofs.ReadingSteps.{lines_are_read}
use Rattle.def_format.proofs.TraceFits.{lines_fit_within}
use Rattle.def_format.proofs.lines_are_read.Goals as goal

pub returns : goal.returns
returns c = record { read = lines_are_read; fit = lines_fit_within }
