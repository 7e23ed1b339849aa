-- The report of traces says the truth.
use Rattle.def_judgement.proofs.HeadlineFacts.{headline_lem}
use Rattle.def_judgement.proofs.headline.Goals as goal

pub returns : goal.returns
returns c = headline_lem
