-- The words of each process, one after another.
use Rattle.std.proofs.Common.{rules, ◌≡◌, ◌+◌, replicate}
use Rattle.def_model.specs.Events.{event_count}
use Rattle.walk_runs.proofs.Receivers.{rows_push}
use Rattle.walk_runs.proofs.steps.no_receivers.Goals as goal

pub loop-q-preserved : goal.loop-q-preserved
loop-q-preserved c =
    let none : c.in_ok-row.row.items ≡ replicate (event_count c.args.computation.now.events c.loop-q.q + 1) 0 =
    search rules in
    rw (c.in_ok-push.ensures.items) (rows_push c.args.computation.now.events c.loop-q.q c.loop-q.receivers.items
    c.in_ok-row.row c.loop-q.invariant none)
