-- All variables are worth what the values say, or one of them isn't.
use Rattle.std.proofs.Common.{arith}
use Rattle.judge_orders.proofs.SeenRows.{seen_all}
use Rattle.judge_orders.proofs.process_kept.is_seen_so.Goals as goal

pub returns-clause-same : goal.returns-clause-same
returns-clause-same c = λ yes.
    seen_all c.args.row.now c.args.values.now c.args.vars.now c.args.last c.requires
    (λ k lt. c.loop-i.invariant k (omega (arith, lt, c.loop-i-test.false, c.loop-i.auto.i-end)))
