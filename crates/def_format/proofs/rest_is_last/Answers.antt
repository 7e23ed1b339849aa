-- If no more bytes come, the rest of sound bytes is their last line, if it isn't empty.
use Rattle.def_format.proofs.PartFacts.{sound_finishes}
use Rattle.def_format.proofs.rest_is_last.Goals as goal

pub returns : goal.returns
returns c = sound_finishes
