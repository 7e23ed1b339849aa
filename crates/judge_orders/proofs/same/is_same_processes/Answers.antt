-- Processes that differ.
use Rattle.std.proofs.Common.{◌≡◌, ◌<◌, length, sym, ◌∙◌, ap, arith, true, false}
use Rattle.judge_orders.specs.OrderViews.{process_view}
use Rattle.judge_orders.proofs.Sameness.{same_at}
use Rattle.judge_orders.proofs.same.is_same_processes.Goals as goal

pub returns-then-not-is_same_process : goal.returns-then-not-is_same_process
returns-then-not-is_same_process c = (
  λ (no' : false ≡ true). absurd (cc),
  λ same.
      let within : c.loop-i.i < length c.args.second.now =
      omega (arith, c.loop-i-test.true, c.if-first-second.false) in
      c.if-not-is_same_process.ensures.1
      (ap process_view c.index-first-i.is
      ∙ (same_at process_view c.args.first.now c.args.second.now c.loop-i.i c.index-first-i.result
      c.index-second-i.result same c.loop-i-test.true within
      ∙ sym (ap process_view c.index-second-i.is))),
)
