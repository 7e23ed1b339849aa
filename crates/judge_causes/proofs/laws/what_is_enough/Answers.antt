-- Receipts that are enough for one run are enough for others.
use Rattle.judge_causes.proofs.EnoughLaws.{enough_for_all}
use Rattle.judge_causes.proofs.laws.what_is_enough.Goals as goal

pub returns : goal.returns
returns c = enough_for_all
