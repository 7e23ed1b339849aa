-- The rows of needs, one process after another.
use Rattle.walk_runs.proofs.NeedRows.{row_push}
use Rattle.walk_runs.proofs.steps.needs_of_all.Goals as goal

pub loop-p-preserved : goal.loop-p-preserved
loop-p-preserved c =
    rw (c.in_ok-push.ensures.items) (row_push c.args.computation.now.events c.loop-p.p c.loop-p.rows.items
    c.in_ok-needs_of.field-0 c.loop-p.invariant c.in_ok-needs_of.ensures)
