-- What the level decides.
use Rattle.std.proofs.Common.{arith}
use Rattle.walk.proofs.Opening.{decided_yes, level_narrow, level_wide, still_open, unknown_here}
use Rattle.walk.specs.Tasks.{task_events, task_test}
use Rattle.walk.proofs.look.possibly_at.Goals as goal

pub returns-then-cuts-task-clause-found : goal.returns-then-cuts-task-clause-found
returns-then-cuts-task-clause-found g c =
    unknown_here (task_events c.args.task.now) (task_test c.args.task.now) c.args.task.now.width
    c.args.task.now.level.now.number
    c.number.result c.number.ensures c.requires.opened
    (level_wide c.whole_levels.ensures.cuts c.whole_levels.ensures.count (task_events c.args.task.now)
    c.args.task.now.level.now
    c.requires.task.whole c.args.task.now.width (omega (arith, c.cuts.ensures, c.if-cuts-task.true)))

pub returns-in-Some-clause-found : goal.returns-in-Some-clause-found
returns-in-Some-clause-found g c =
    decided_yes (task_events c.args.task.now) (task_test c.args.task.now) c.args.task.now.width
    c.args.task.now.level.now.number
    c.requires.opened
    (level_narrow c.whole_levels.ensures.cuts c.whole_levels.ensures.count c.possibly_walk.ensures.short
    (task_events c.args.task.now) c.args.task.now.level.now c.requires.task.whole c.args.task.now.width
    (omega (arith, c.cuts.ensures, c.if-cuts-task.false))) c.in-Some.cut
    (rw c.in-Some.is at c.in_ok-first.ensures.level) (rw c.in-Some.is at c.in_ok-first.ensures.satisfies)
    ((rw c.in-Some.is at c.in_ok-first.ensures.first) c.requires.opened.none)

pub returns-in-None-clause-none : goal.returns-in-None-clause-none
returns-in-None-clause-none g c =
    still_open (task_events c.args.task.now) (task_test c.args.task.now) c.args.task.now.width
    c.args.task.now.level.now.number
    c.requires.opened
    (level_narrow c.whole_levels.ensures.cuts c.whole_levels.ensures.count c.possibly_walk.ensures.short
    (task_events c.args.task.now) c.args.task.now.level.now c.requires.task.whole c.args.task.now.width
    (omega (arith, c.cuts.ensures, c.if-cuts-task.false))) (rw c.in-None.is at c.in_ok-first.ensures.none)
