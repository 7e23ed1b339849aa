-- The laws stand in `Answering`.
use Rattle.judge_reduced.proofs.Answering.{definitely_of_reduced_run, possibly_of_reduced_run}
use Rattle.judge_reduced.proofs.answers.Goals as goal

pub returns-clause-possibly : goal.returns-clause-possibly
returns-clause-possibly c = possibly_of_reduced_run

pub returns-clause-definitely : goal.returns-clause-definitely
returns-clause-definitely c = definitely_of_reduced_run
