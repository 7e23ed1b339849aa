-- What comes of the trial comes of its result.
use Rattle.judge_shared.proofs.trial.final_result.Goals as goal

pub returns-in_ok-final_outcome-in-Ok : goal.returns-in_ok-final_outcome-in-Ok
returns-in_ok-final_outcome-in-Ok c = rw c.in-Ok.is c.in_ok-final_outcome-in-Ok.ensures
