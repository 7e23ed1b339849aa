-- The points of one process more.
use Rattle.std.proofs.Common.{get_or}
use Rattle.wide_slice.specs.declared.points.Point.{Point}
use Rattle.wide_slice.specs.Points.{IsRow}
use Rattle.wide_slice.proofs.Lists.{row_each}
use Rattle.wide_slice.proofs.points.rows.Goals as goal

pub loop-process-preserved : goal.loop-process-preserved
loop-process-preserved g c =
    let more =
    row_each {X = Point}
    (λ p points.
    IsRow c.args.computation.now.events (g.G.GoodCounts.good c.args.wanted.now) p (get_or c.args.least.now p 0) points)
    c.loop-process.rows.items c.push.new.self.items c.in_ok-points_of.field-0 c.loop-process.process
    c.loop-process.invariant.count c.in_ok-push.ensures.items c.loop-process.invariant.each c.in_ok-points_of.ensures in
    record { count = more.0; each = more.1 }
