-- The marks of one process more.
use Rattle.std.proofs.Common.{Bool}
use Rattle.wide_slice.specs.Points.{IsAsked}
use Rattle.wide_slice.proofs.Lists.{row_each}
use Rattle.wide_slice.proofs.asked.asked.Goals as goal

pub loop-process-preserved : goal.loop-process-preserved
loop-process-preserved c =
    let more =
    row_each {X = Bool} (IsAsked c.args.computation.now.events c.args.rows.now) c.loop-process.asked.items
    c.push.new.self.items c.in_ok-asked_of.field-0 c.loop-process.process c.loop-process.invariant.count
    c.in_ok-push.ensures.items c.loop-process.invariant.each c.in_ok-asked_of.ensures in
    record { count = more.0; each = more.1 }
