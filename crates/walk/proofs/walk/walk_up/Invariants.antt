-- What the loop of `walk_up` keeps.
use Rattle.std.proofs.Common.{◌-◌}
use Rattle.walk.specs.Stages.{HasComeTo, number_held}
use Rattle.walk.proofs.walk.walk_up.Given as goal

abbrev pub invariant-loop-steps : goal.invariant-loop-steps
invariant-loop-steps g l =
    HasComeTo l.setting.computation.now.events l.tests.items l.setting.width l.setting.gap l.wholes.most
    l.wholes.levels.items l.skipped l.stages.items

abbrev pub decreases-loop-steps : goal.decreases-loop-steps
decreases-loop-steps g l = l.total - number_held l.wholes.levels.items
