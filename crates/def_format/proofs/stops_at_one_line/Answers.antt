-- Bytes stop being a report at one line.
use Rattle.def_format.proofs.OneReport.{stops_at_one_line_lem}
use Rattle.def_format.proofs.stops_at_one_line.Goals as goal

pub returns : goal.returns
returns c = stops_at_one_line_lem
