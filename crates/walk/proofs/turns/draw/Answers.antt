-- The predicate is looked at.
use Rattle.walk.proofs.Tasks.{before_task, seen_in, stands_for}
use Rattle.walk.proofs.turns.draw.Goals as goal

pub see-requires-clause-before : goal.see-requires-clause-before
see-requires-clause-before g c _ _ =
    before_task c.args.round.now c.args.i c.task_of-task.result c.task_of-task.ensures c.args.before.now
    c.requires.before

pub see-requires-clause-stands : goal.see-requires-clause-stands
see-requires-clause-stands g c _ _ =
    stands_for c.args.round.now c.args.i c.task_of-task.result c.task_of-task.ensures c.args.before.now
    c.args.stage.now c.requires.known

pub returns : goal.returns
returns g c =
    seen_in c.args.round.now c.args.i c.task_of-task.result c.task_of-task.ensures c.args.stage.now
    c.in_ok-seen.seen c.in_ok-seen.ensures
