-- The needs of a process, one event after another.
use Rattle.walk_runs.proofs.NeedRows.{need_push}
use Rattle.walk_runs.proofs.steps.needs_of.Goals as goal

pub loop-n-preserved : goal.loop-n-preserved
loop-n-preserved c =
    rw (c.in_ok-push.ensures.items) (need_push c.args.computation.now.events c.args.p c.loop-n.n c.loop-n.row.items
    c.need_after.result c.loop-n.invariant c.need_after.ensures)
