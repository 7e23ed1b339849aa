-- The fault is that of the first byte that has one.
use Rattle.def_format.proofs.LineFacts.{fault_is_first_lem}
use Rattle.def_format.proofs.fault_is_first.Goals as goal

pub returns : goal.returns
returns c = fault_is_first_lem
