-- The report of a document's bytes and of streams is true.
use Rattle.def_judgement.proofs.TrueReports.{judgement_is_true_lem}
use Rattle.def_judgement.proofs.judgement_is_true.Goals as goal

pub returns : goal.returns
returns c = judgement_is_true_lem
