-- One event more is free.
use Rattle.std.proofs.Common.{◌≤◌, ◌+◌, arith}
use Rattle.def_model.specs.Events.{place}
use Rattle.wide_conjunctions.specs.Firsts.{IsFree}
use Rattle.wide_conjunctions.proofs.MostBefore.{one_more}
use Rattle.wide_conjunctions.proofs.most.free_count.Goals as goal

pub loop-n-preserved : goal.loop-n-preserved
loop-n-preserved c m low high =
    one_more (λ k. 1 ≤ k → IsFree c.args.computation.now.events c.args.firsts.now (place c.args.p k)) (c.loop-n.n + 1)
    (λ k lt some. c.loop-n.invariant k some (omega arith))
    (λ _. c.is_free.ensures.yes c.if-not-is_free.false) m (omega arith) low
