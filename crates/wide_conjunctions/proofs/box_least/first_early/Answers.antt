-- One process more is looked at.
use Rattle.std.proofs.Common.{get_or}
use Rattle.wide_conjunctions.proofs.MostBefore.{one_more}
use Rattle.wide_conjunctions.specs.Intervals.{IsLeftInTime}
use Rattle.wide_conjunctions.proofs.box_least.first_early.Goals as goal

pub loop-q-preserved : goal.loop-q-preserved
loop-q-preserved c =
    one_more (λ k. IsLeftInTime c.args.computation.now.events c.args.starts.now k (get_or c.args.leaves.now k 0))
    c.loop-q.q c.loop-q.invariant (c.leaves_early.ensures.no c.if-leaves_early.false)
