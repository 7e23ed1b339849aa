-- What is the report of anything is lawful.
use Rattle.def_judgement.proofs.LawfulReports.{judgement_is_lawful, report_is_lawful_lem}
use Rattle.def_judgement.proofs.report_is_lawful.Goals as goal

pub returns-clause-judgement : goal.returns-clause-judgement
returns-clause-judgement c = judgement_is_lawful

pub returns-clause-bundle : goal.returns-clause-bundle
returns-clause-bundle c = report_is_lawful_lem
