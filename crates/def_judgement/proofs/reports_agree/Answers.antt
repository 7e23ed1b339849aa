-- In the report of traces the answers agree, at every width.
use Rattle.def_judgement.proofs.HeadlineFacts.{reports_agree_lem}
use Rattle.def_judgement.proofs.reports_agree.Goals as goal

pub returns : goal.returns
returns c = reports_agree_lem
