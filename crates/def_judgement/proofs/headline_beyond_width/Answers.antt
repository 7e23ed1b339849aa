-- The report of traces says the truth.
use Rattle.def_judgement.proofs.HeadlineFacts.{headline_beyond_width_lem}
use Rattle.def_judgement.proofs.headline_beyond_width.Goals as goal

pub returns : goal.returns
returns c = headline_beyond_width_lem
