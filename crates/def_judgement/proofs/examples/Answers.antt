-- The definitions, tried on small computations.
use Rattle.def_judgement.proofs.Worked.{one_cut_a_level, one_true_report}
use Rattle.def_judgement.proofs.WorkedByHeight.{one_answer_by_height}
use Rattle.def_judgement.proofs.examples.Goals as goal

pub returns-clause-narrow : goal.returns-clause-narrow
returns-clause-narrow c = one_cut_a_level

pub returns-clause-truth : goal.returns-clause-truth
returns-clause-truth c = one_true_report

pub returns-clause-height : goal.returns-clause-height
returns-clause-height c = one_answer_by_height
