-- A read fails, the lines have come to their end, or one is at fault.
use Rattle.judge_session.specs.declared.fault.EngineFault.TheVariants as faults
use Rattle.app_merge.proofs.SoFar.{same_fault}
use Rattle.app_merge.proofs.input_lines.summary_of.Goals as goal

pub returns-in_err-step-clause-cause : goal.returns-in_err-step-clause-cause
returns-in_err-step-clause-cause g c reported =
    c.in_err-step.ensures.cause (same_fault c.from_residual-in_err-step.result c.in_err-step.field-0.0 faults.Read
    c.from_residual-in_err-step.ensures.1 reported) (g.I.ByteSource.left c.args.input) c.lines.number c.lines.invariant

pub returns-in-End-clause-found : goal.returns-in-End-clause-found
returns-in-End-clause-found g c =
    (rw c.in-End.is at c.in_ok-step.ensures.gives) (g.I.ByteSource.left c.args.input) c.lines.number c.lines.invariant

pub returns-in-Faulty-clause-found : goal.returns-in-Faulty-clause-found
returns-in-Faulty-clause-found g c =
    (rw c.in-Faulty.is at c.in_ok-step.ensures.gives) (g.I.ByteSource.left c.args.input) c.lines.number
    c.lines.invariant
