-- One more process has no more numbers, or one has.
use Rattle.std.proofs.Common.{◌<◌, ◌≤◌, ℕ, length, subst, arith}
use Rattle.std.specs.Prelude.{Vec}
use Rattle.std.specs.Global.{Global}
use Rattle.def_format.specs.Limits.{event_limit}
use Rattle.judge_orders.proofs.KeptParts.{limit_more, limit_passed}
use Rattle.judge_orders.proofs.long_order.are_within_limit.Goals as goal

pub returns-then-len-gt-EVENT_LIMIT : goal.returns-then-len-gt-EVENT_LIMIT
returns-then-len-gt-EVENT_LIMIT c = (
  λ yes. absurd (cc),
  λ within. absurd (limit_passed c.args.numbers.now c.loop-of_process.of_process-index c.of_process-item.result
      c.loop-of_process-test.true (subst (λ (list : Vec ℕ Global). event_limit < length list.items)
      c.of_process-item.is (omega (arith, c.if-len-gt-EVENT_LIMIT.true, c.len.ensures))) within),
)

pub loop-of_process-preserved : goal.loop-of_process-preserved
loop-of_process-preserved c =
    limit_more c.args.numbers.now c.loop-of_process.of_process-index c.of_process-item.result
    c.loop-of_process-test.true c.loop-of_process.invariant
    (subst (λ (list : Vec ℕ Global). length list.items ≤ event_limit) c.of_process-item.is
    (omega (arith, c.if-len-gt-EVENT_LIMIT.false, c.len.ensures)))
