-- One process more is looked at.
use Rattle.std.proofs.Common.{get_or}
use Rattle.wide_conjunctions.proofs.MostBefore.{one_more}
use Rattle.wide_conjunctions.specs.Ways.{IsInTimeAt}
use Rattle.wide_conjunctions.proofs.last.is_late.Goals as goal

pub loop-q-preserved : goal.loop-q-preserved
loop-q-preserved c =
    one_more (λ k. IsInTimeAt c.args.computation.now.events c.args.cut.now c.args.starts.now k
    (get_or c.args.leaves.now k 0) c.args.r) c.loop-q.q c.loop-q.invariant
    (c.is_late_at.ensures.no c.if-is_late_at.false)
