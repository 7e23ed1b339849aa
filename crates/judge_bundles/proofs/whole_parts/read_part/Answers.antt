-- What is kept of the part grows by what each step gives.
use Rattle.std.proofs.Common.{◌≡◌, ◌∙◌, ◌++◌, ap, []}
use Rattle.def_judgement.specs.Writes.{IsBrokenOff, IsTooLong}
use Rattle.read_bundle.specs.declared.fault.BundleFault.TheVariants as faults
use Rattle.read_bundle.proofs.PartSteps.{part_grows, part_fault, part_read, same_fault}
use Rattle.judge_bundles.proofs.whole_parts.read_part.Goals as goal

pub steps-preserved : goal.steps-preserved
steps-preserved g c = record {
  at = part_grows (λ part. c.steps.bytes.items ≡ part) (λ part. c.keep_given.new.bytes.items ≡ part)
      (g.R.ByteSource.left c.args.reader.now) (g.R.ByteSource.left c.steps.reader)
      (g.R.ByteSource.left c.next-in-steps.new.reader) c.args.bundle.now c.steps.bundle c.next-in-steps.new.self
      c.steps.next c.in_ok-next-2.next c.steps-test.ensures.yes c.steps.invariant.at
      (λ part same. c.in_ok-keep_given.ensures ∙ ap (λ bytes. bytes ++ c.steps.bundle.given) same)
      c.in_ok-next-2.ensures.steps;
  ready = c.in_ok-next-2.ensures.ready;
}

pub returns-clause-part : goal.returns-clause-part
returns-clause-part g c =
    rw c.begins_part.ensures (part_read (λ part. c.steps.bytes.items ≡ part) (λ part. c.steps.bytes.items ≡ part)
    (g.R.ByteSource.left c.args.reader.now) (g.R.ByteSource.left c.steps.reader)
    c.args.bundle.now c.steps.bundle c.steps.next c.steps-test.ensures.no c.steps.invariant.at (λ part same. same))

pub returns-in_err-next-clause-long : goal.returns-in_err-next-clause-long
returns-in_err-next-clause-long g c reported = λ input closed cut.
    c.in_err-next.ensures.long (same_fault c.from_residual.result c.in_err-next.field-0.0 faults.Long
    c.from_residual.ensures.1 reported) input closed [] cut

pub returns-in_err-next-2-clause-long : goal.returns-in_err-next-2-clause-long
returns-in_err-next-2-clause-long g c reported =
    part_fault IsTooLong (λ part. c.steps.bytes.items ≡ part) (g.R.ByteSource.left c.args.reader.now)
    (g.R.ByteSource.left c.steps.reader) c.args.bundle.now c.steps.bundle c.steps.next
    c.steps-test.ensures.yes c.steps.invariant.at
    (c.in_err-next-2.ensures.long (same_fault c.from_residual-in_err-next-2.result c.in_err-next-2.field-0.0
    faults.Long c.from_residual-in_err-next-2.ensures.1 reported))

pub returns-in_err-next-clause-cause : goal.returns-in_err-next-clause-cause
returns-in_err-next-clause-cause g c reported = λ input closed cut.
    c.in_err-next.ensures.cause (same_fault c.from_residual.result c.in_err-next.field-0.0 faults.Read
    c.from_residual.ensures.1 reported) input closed [] cut

pub returns-in_err-next-2-clause-cause : goal.returns-in_err-next-2-clause-cause
returns-in_err-next-2-clause-cause g c reported =
    part_fault IsBrokenOff (λ part. c.steps.bytes.items ≡ part) (g.R.ByteSource.left c.args.reader.now)
    (g.R.ByteSource.left c.steps.reader) c.args.bundle.now c.steps.bundle c.steps.next
    c.steps-test.ensures.yes c.steps.invariant.at
    (c.in_err-next-2.ensures.cause (same_fault c.from_residual-in_err-next-2.result c.in_err-next-2.field-0.0
    faults.Read c.from_residual-in_err-next-2.ensures.1 reported))
