-- The needs of a row, one after another.
use Rattle.std.proofs.Common.{refl}
use Rattle.walk_runs.specs.Needs.{table_view}
use Rattle.walk_runs.proofs.Receivers.{row_more, row_none}
use Rattle.walk_runs.proofs.steps.add_receivers.Goals as goal

pub loop-i-init : goal.loop-i-init
loop-i-init c = row_none (table_view c.args.receivers.now.items) c.args.row.now c.args.p

pub loop-i-preserved : goal.loop-i-preserved
loop-i-preserved c =
    row_more (table_view c.args.receivers.now.items) (table_view c.loop-i.receivers.items)
    (table_view c.add_receiver.new.receivers.items) c.args.row.now c.loop-i.i c.args.p _ _ c.loop-i-test.true refl
    c.loop-i.invariant c.add_receiver.ensures
