-- Nothing depends on what follows the end line or a fault.
use Rattle.def_format.proofs.ReadingFacts.{closed_stays_lem}
use Rattle.def_format.proofs.closed_stays.Goals as goal

pub returns : goal.returns
returns c = closed_stays_lem
