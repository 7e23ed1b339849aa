-- The laws stand in `WindowsOfRun`.
use Rattle.def_long.proofs.WindowsOfRun.{definitely_of_run, possibly_of_run}
use Rattle.def_long.proofs.windows.Goals as goal

pub returns-clause-possibly : goal.returns-clause-possibly
returns-clause-possibly c = possibly_of_run

pub returns-clause-definitely : goal.returns-clause-definitely
returns-clause-definitely c = definitely_of_run
