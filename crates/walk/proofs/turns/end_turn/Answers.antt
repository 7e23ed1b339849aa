-- What was seen is put to what was known, or the predicate is looked at.
use Rattle.walk.proofs.Tasks.{before_task, seen_at, stands_for}
use Rattle.walk.proofs.turns.end_turn.Goals as goal

pub go_on-requires-clause-seen : goal.go_on-requires-clause-seen
go_on-requires-clause-seen g c =
    seen_at c.args.round.now c.args.i c.task_of-task.result c.task_of-task.ensures c.args.stage.now
    c.in-Some.seen (rw c.in-Some.is at c.requires.drawn)

pub look-requires-clause-before : goal.look-requires-clause-before
look-requires-clause-before g c _ _ =
    before_task c.args.round.now c.args.i c.task_of-task-in-None.result c.task_of-task-in-None.ensures c.args.before.now
    c.requires.before

pub look-requires-clause-stands : goal.look-requires-clause-stands
look-requires-clause-stands g c _ _ =
    stands_for c.args.round.now c.args.i c.task_of-task-in-None.result c.task_of-task-in-None.ensures c.args.before.now
    c.args.stage.now (rw c.in-None.is at c.requires.drawn)
