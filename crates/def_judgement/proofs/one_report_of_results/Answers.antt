-- A document and the outcomes of its streams have one report.
use Rattle.def_judgement.proofs.ReportsAreSingle.{one_report_of_outcomes_lem}
use Rattle.def_judgement.proofs.one_report_of_results.Goals as goal

pub returns : goal.returns
returns c = one_report_of_outcomes_lem
