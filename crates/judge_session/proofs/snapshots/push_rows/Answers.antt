-- One row more has one line more.
use Rattle.judge_session.proofs.SnapshotTexts.{row_more}
use Rattle.judge_session.proofs.snapshots.push_rows.Goals as goal

pub loop-i-preserved : goal.loop-i-preserved
loop-i-preserved c =
    row_more c.args.names.now c.args.out.now.items c.loop-i.out.items c.push_row.new.out.items c.args.rows.now
    c.loop-i.i _ c.loop-i-test.true c.loop-i.invariant c.in_ok-push_row.ensures
