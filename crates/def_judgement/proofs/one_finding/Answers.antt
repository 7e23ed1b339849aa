-- A check finds one thing.
use Rattle.def_judgement.proofs.FindingsAreSingle.{one_finding_lem}
use Rattle.def_judgement.proofs.one_finding.Goals as goal

pub returns : goal.returns
returns c = one_finding_lem
