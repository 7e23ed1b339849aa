-- What is found of a report, if the session is refused.
use Rattle.judge_check.specs.Found.{of_refused_session}
use Rattle.judge_check.proofs.claims.find_refused.Goals as goal

pub returns : goal.returns
returns c = of_refused_session c.is_refusal.result c.is_refusal.ensures
