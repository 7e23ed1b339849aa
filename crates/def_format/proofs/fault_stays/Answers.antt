-- Bytes after a fault change neither the fault nor the lines.
use Rattle.def_format.proofs.LineFacts.{fault-stays}
use Rattle.def_format.proofs.fault_stays.Goals as goal

pub returns : goal.returns
returns c = fault-stays
