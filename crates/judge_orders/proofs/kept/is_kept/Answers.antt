-- One of the variables has another value.
use Rattle.std.proofs.Common.{◌+◌, sym, ap, ◌∙◌, of_z, w64}
use Rattle.judge_orders.proofs.Keeping.{values_differ}
use Rattle.judge_orders.proofs.kept.is_kept.Goals as goal

pub returns-then-value_after-clause-changes : goal.returns-then-value_after-clause-changes
returns-then-value_after-clause-changes c = λ yes.
    values_differ c.args.computation.now c.args.p c.args.vars.now c.args.n (c.args.n + 1) c.loop-var.var-index _
    c.loop-var-test.true (λ same.
    c.if-value_after.true (ap (of_z w64) (c.value_after.ensures ∙ (same ∙ sym c.value_after-in-loop-var.ensures))))
