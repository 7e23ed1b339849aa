-- No two lawful reports share a text.
use Rattle.def_format.proofs.OneReport.{one_report_of_bytes}
use Rattle.def_format.proofs.one_report.Goals as goal

pub returns : goal.returns
returns c = one_report_of_bytes
