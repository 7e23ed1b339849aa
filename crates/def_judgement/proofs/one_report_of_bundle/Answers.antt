-- A bundle has one report, so none is both judged and refused.
use Rattle.def_judgement.proofs.ReportsAreSingle.{one_report_of_bundle_lem, not_judged_and_refused}
use Rattle.def_judgement.proofs.one_report_of_bundle.Goals as goal

pub returns-clause-single : goal.returns-clause-single
returns-clause-single c = one_report_of_bundle_lem

pub returns-clause-judged_or_refused : goal.returns-clause-judged_or_refused
returns-clause-judged_or_refused c = not_judged_and_refused
