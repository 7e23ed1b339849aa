-- The laws stand in `Naming` and `Counting`.
use Rattle.judge_reduced.proofs.Counting.{few_events_few_kept}
use Rattle.judge_reduced.proofs.Naming.{documents_name_their_vars}
use Rattle.judge_reduced.proofs.bounds.Goals as goal

pub returns-clause-vars : goal.returns-clause-vars
returns-clause-vars c = documents_name_their_vars

pub returns-clause-few : goal.returns-clause-few
returns-clause-few c = few_events_few_kept
