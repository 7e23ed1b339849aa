-- The laws stand in `GateLaws`.
use Rattle.def_wide.proofs.GateLaws.{gates_decide, late_level_decides, one_late_level}
use Rattle.def_wide.proofs.gates.Goals as goal

pub returns-clause-gate : goal.returns-clause-gate
returns-clause-gate c = gates_decide

pub returns-clause-late : goal.returns-clause-late
returns-clause-late c = late_level_decides

pub returns-clause-single : goal.returns-clause-single
returns-clause-single c = one_late_level
