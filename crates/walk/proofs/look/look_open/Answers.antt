-- What is known where Possibly was answered.
use Rattle.walk.proofs.Opening.{split_here}
use Rattle.walk.specs.Tasks.{task_events, task_test}
use Rattle.walk.proofs.look.look_open.Goals as goal

pub settle-requires-clause-split : goal.settle-requires-clause-split
settle-requires-clause-split g c =
    split_here c.avoidance.ensures.all (task_events c.args.task.now) c.requires.task.acyclic (task_test c.args.task.now)
    c.args.task.now.width c.args.task.now.gap c.args.task.now.level.now.number
    (record { possibly = c.in-Some.possibly; first = c.number.result; held = c.new.result }) c.requires.opened
    c.requires.task.within (rw c.in-Some.is at c.in_ok-found.ensures.found) c.number.ensures c.new.ensures.levels
    c.new.ensures.walked c.new.ensures.beside c.new.ensures.most
