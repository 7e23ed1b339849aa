-- What the first cut says.
use Rattle.pd_pred.specs.Views.{predicate_view}
use Rattle.judge_causes.proofs.trial.trial_of_two.Goals as goal

pub returns : goal.returns
returns c =
    c.trial_by_first-trial.ensures c.args.computation.now (predicate_view c.args.pred.now)
    (rw c.tree.ensures at c.in_ok-first.ensures)
