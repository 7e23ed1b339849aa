-- What the verdict says.
use Rattle.pd_pred.specs.Views.{predicate_view}
use Rattle.judge_causes.proofs.trial.trial_by_sums.Goals as goal

pub returns : goal.returns
returns c =
    c.trial_by_verdict-trial.ensures c.args.computation.now (predicate_view c.args.pred.now) c.requires
    (rw c.tree.ensures at c.in_ok-verdict.ensures)
