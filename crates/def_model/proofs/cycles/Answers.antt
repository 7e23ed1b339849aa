-- Stuck events.
use Rattle.def_model.proofs.Stuck.{stuck_step, stuck_receipt, stuck_exactly, none_stuck, one_cycle}
use Rattle.def_model.proofs.cycles.Goals as goal

pub returns-clause-step : goal.returns-clause-step
returns-clause-step c = stuck_step

pub returns-clause-receipt : goal.returns-clause-receipt
returns-clause-receipt c = stuck_receipt

pub returns-clause-left : goal.returns-clause-left
returns-clause-left c = stuck_exactly

pub returns-clause-none : goal.returns-clause-none
returns-clause-none c = none_stuck

pub returns-clause-single : goal.returns-clause-single
returns-clause-single c = one_cycle
