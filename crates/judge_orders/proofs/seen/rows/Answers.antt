-- One more event.
use Rattle.judge_orders.specs.Lists.{lists_view}
use Rattle.judge_orders.proofs.Rows.{rows_more}
use Rattle.judge_orders.proofs.seen.rows.Goals as goal

pub loop-number-preserved : goal.loop-number-preserved
loop-number-preserved c =
    rows_more c.args.computation.now.events (lists_view c.args.columns.now) c.args.p c.args.numbers.now
    c.loop-number.number-index _ c.loop-number.known.items c.push_row.new.known.items c.loop-number-test.true
    c.loop-number.invariant c.in_ok-push_row.ensures
