-- The parts that are left are skipped.
use Rattle.std.proofs.Common.{[]}
use Rattle.def_judgement.specs.Writes.{IsBrokenOff, IsTooLong}
use Rattle.read_bundle.specs.declared.fault.BundleFault.TheVariants as faults
use Rattle.read_bundle.proofs.PartSteps.{same_fault, skip_begins, skip_ends, skip_goes, skip_fault}
use Rattle.read_bundle.proofs.parts.skip_parts.Goals as goal

pub steps-init : goal.steps-init
steps-init g c = record {
  has = skip_begins (g.R.ByteSource.left c.args.reader.now) (g.R.ByteSource.left c.next.new.reader)
      c.args.bundle.now c.next.new.self c.in_ok-next.next
      c.in_ok-next.ensures.steps;
  ready = c.in_ok-next.ensures.ready;
}

pub steps-preserved : goal.steps-preserved
steps-preserved g c = record {
  has = skip_goes (g.R.ByteSource.left c.args.reader.now) (g.R.ByteSource.left c.steps.reader)
      (g.R.ByteSource.left c.next-in-steps.new.reader) c.args.bundle.now c.steps.bundle c.next-in-steps.new.self
      c.steps.next
      c.in_ok-next-2.next c.steps-test.ensures.no c.steps.invariant.has c.in_ok-next-2.ensures.steps;
  ready = c.in_ok-next-2.ensures.ready;
}

pub returns-clause-parts : goal.returns-clause-parts
returns-clause-parts g c =
    skip_ends (g.R.ByteSource.left c.args.reader.now) (g.R.ByteSource.left c.steps.reader) c.args.bundle.now
    c.steps.bundle c.steps.next c.steps-test.ensures.yes c.steps.invariant.has

pub returns-in_err-next-clause-long : goal.returns-in_err-next-clause-long
returns-in_err-next-clause-long g c reported = λ input closed cut.
    c.in_err-next.ensures.long (same_fault c.from_residual.result c.in_err-next.field-0.0 faults.Long
    c.from_residual.ensures.1 reported) input closed [] cut

pub returns-in_err-next-2-clause-long : goal.returns-in_err-next-2-clause-long
returns-in_err-next-2-clause-long g c reported =
    skip_fault IsTooLong (g.R.ByteSource.left c.args.reader.now) (g.R.ByteSource.left c.steps.reader) c.args.bundle.now
    c.steps.bundle c.steps.next
    c.steps-test.ensures.no c.steps.invariant.has
    (c.in_err-next-2.ensures.long (same_fault c.from_residual-in_err-next-2.result c.in_err-next-2.field-0.0
    faults.Long c.from_residual-in_err-next-2.ensures.1 reported))

pub returns-in_err-next-clause-cause : goal.returns-in_err-next-clause-cause
returns-in_err-next-clause-cause g c reported = λ input closed cut.
    c.in_err-next.ensures.cause (same_fault c.from_residual.result c.in_err-next.field-0.0 faults.Read
    c.from_residual.ensures.1 reported) input closed [] cut

pub returns-in_err-next-2-clause-cause : goal.returns-in_err-next-2-clause-cause
returns-in_err-next-2-clause-cause g c reported =
    skip_fault IsBrokenOff (g.R.ByteSource.left c.args.reader.now) (g.R.ByteSource.left c.steps.reader)
    c.args.bundle.now c.steps.bundle c.steps.next c.steps-test.ensures.no c.steps.invariant.has
    (c.in_err-next-2.ensures.cause (same_fault c.from_residual-in_err-next-2.result c.in_err-next-2.field-0.0
    faults.Read c.from_residual-in_err-next-2.ensures.1 reported))
