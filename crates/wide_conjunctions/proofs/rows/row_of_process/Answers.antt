-- One count more.
use Rattle.wide_conjunctions.proofs.RowSteps.{row_more}
use Rattle.wide_conjunctions.proofs.rows.row_of_process.Goals as goal

pub loop-count-preserved : goal.loop-count-preserved
loop-count-preserved g c =
    row_more (g.G.GoodCounts.good c.args.wanted.now c.args.p) c.loop-count.count c.loop-count.start c.loop-count.leave
    c.loop-count.starts.items c.loop-count.leaves.items c.loop-count.invariant c.is_good-is_good.result
    c.is_good-is_good.ensures c.next_start-start.result c.next_leave-leave.result c.next_start-start.ensures
    c.next_leave-leave.ensures c.push-in-loop-count.new.self.items c.push-in-loop-count-2.new.self.items
    c.in_ok-push-3.ensures.items c.in_ok-push-4.ensures.items
