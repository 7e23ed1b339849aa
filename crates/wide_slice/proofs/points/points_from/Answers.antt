-- The next point, or the end of the row.
use Rattle.std.proofs.Common.{get_or}
use Rattle.wide_slice.proofs.Rows.{row_ended, row_next}
use Rattle.wide_slice.proofs.points.points_from.Goals as goal

pub loop-from-preserved : goal.loop-from-preserved
loop-from-preserved g c =
    row_next c.args.computation.now.events (g.G.GoodCounts.good c.args.wanted.now) c.args.process c.requires.there
    (get_or c.args.counts.now c.args.process 0) c.loop-from.points.items c.loop-from.from c.loop-from.counts
    c.loop-from.invariant c.in-Some.point c.next_point-found.new.counts
    (rw c.in-Some.is at c.next_point-found.ensures.some) c.push.new.self.items c.in_ok-push-in-Some.ensures.items

pub returns-in-None : goal.returns-in-None
returns-in-None g c =
    row_ended c.args.computation.now.events (g.G.GoodCounts.good c.args.wanted.now) c.args.process c.requires.there
    (get_or c.args.counts.now c.args.process 0) c.loop-from.points.items c.loop-from.from c.loop-from.counts
    c.loop-from.invariant (c.limits.ensures.short c.args.process)
    (rw c.in-None.is at c.next_point-found.ensures.none)
