-- The whole run is a window.
use Rattle.def_long.proofs.WindowCuts.{possibly_in_whole, run_is_window}
use Rattle.def_long.proofs.whole_run.Goals as goal

pub returns-clause-window : goal.returns-clause-window
returns-clause-window c = run_is_window

pub returns-clause-possibly : goal.returns-clause-possibly
returns-clause-possibly c = possibly_in_whole

pub returns-clause-definitely : goal.returns-clause-definitely
returns-clause-definitely c computation test = (λ h. h, λ h. h)
