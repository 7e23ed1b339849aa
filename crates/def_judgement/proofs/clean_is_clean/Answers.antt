-- A finding is clean exactly if no line of its text ends with the word `bad`, and none says that the report isn't
-- read.
use Rattle.def_judgement.proofs.CleanFindings.{clean_is_clean_lem}
use Rattle.def_judgement.proofs.clean_is_clean.Goals as goal

pub returns : goal.returns
returns c = clean_is_clean_lem
