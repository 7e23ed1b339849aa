-- One process more is looked at.
use Rattle.std.proofs.Common.{get_or}
use Rattle.wide_conjunctions.proofs.MostBefore.{one_more}
use Rattle.wide_conjunctions.specs.Ways.{NoneIsLateAt}
use Rattle.wide_conjunctions.proofs.last.first_late.Goals as goal

pub loop-q-preserved : goal.loop-q-preserved
loop-q-preserved c =
    one_more (λ k. NoneIsLateAt c.args.computation.now.events c.args.cut.now c.args.starts.now k
    (get_or c.args.leaves.now k 0)) c.loop-q.q c.loop-q.invariant c.in_default.ensures.none
