-- Each answer is one.
use Rattle.def_model.proofs.OneAnswer.{one_possibly_answer, one_definitely_answer, one_list, one_fault}
use Rattle.def_model.proofs.answers_are_single.Goals as goal

pub returns-clause-possibly : goal.returns-clause-possibly
returns-clause-possibly c = one_possibly_answer

pub returns-clause-definitely : goal.returns-clause-definitely
returns-clause-definitely c = one_definitely_answer

pub returns-clause-list : goal.returns-clause-list
returns-clause-list c = one_list

pub returns-clause-fault : goal.returns-clause-fault
returns-clause-fault c = one_fault
