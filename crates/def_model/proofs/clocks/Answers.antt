-- Consistency by clocks.
use Rattle.def_model.proofs.ClockLemmas.{clocks_decide, one_clock}
use Rattle.def_model.proofs.clocks.Goals as goal

pub returns-clause-decide : goal.returns-clause-decide
returns-clause-decide c = clocks_decide

pub returns-clause-single : goal.returns-clause-single
returns-clause-single c = one_clock
