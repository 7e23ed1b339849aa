-- What the loop of `finish_all` keeps.
use Rattle.walk.proofs.Standing.{HaveFinished}
use Rattle.walk.proofs.finish.finish_all.Given as goal

abbrev pub invariant-loop-i : goal.invariant-loop-i
invariant-loop-i g l =
    HaveFinished l.setting.computation.now l.preds l.setting.width l.setting.gap l.wholes.most l.wholes.levels.items
    l.i l.stages.items l.answers.items
