-- The laws stand in `MadeWindows`.
use Rattle.def_long.proofs.MadeWindows.{definitely_of_made_runs, possibly_of_made_runs}
use Rattle.def_long.proofs.made_windows.Goals as goal

pub returns-clause-possibly : goal.returns-clause-possibly
returns-clause-possibly c = possibly_of_made_runs

pub returns-clause-definitely : goal.returns-clause-definitely
returns-clause-definitely c = definitely_of_made_runs
