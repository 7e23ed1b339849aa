-- A text is counted too often.
use Rattle.judge_summary.specs.declared.fault.LineFault.TheVariants as faults
use Rattle.judge_summary.proofs.Sums.{over_left, same_fault}
use Rattle.judge_summary.proofs.counts.Counts.add_all.Goals as goal

pub returns-in_err-add-clause-over : goal.returns-in_err-add-clause-over
returns-in_err-add-clause-over c reported =
    over_left c.args.texts.now c.loop-text.text-index c.loop-text-item.result c.loop-text.self
    c.args.self.now c.loop-text-test.true c.loop-text-item.is
    c.loop-text.invariant.same
    (rw c.deref.ensures at (c.in_err-add.ensures.over (same_fault c.from_residual.result c.in_err-add.field-0.0
    faults.Overflow c.from_residual.ensures.1 reported)))
