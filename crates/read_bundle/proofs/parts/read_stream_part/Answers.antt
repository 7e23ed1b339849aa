-- The stream is fed what each step gives of its part.
use Rattle.std.proofs.Common.{[]}
use Rattle.pd_events.specs.Reads.{Reads}
use Rattle.pd_events.specs.Views.{result_view}
use Rattle.def_format.specs.Readings.{Open}
use Rattle.pd_spec.specs.Views.{document_view}
use Rattle.read_bundle.specs.PartsRead.{IsResultOfPart}
use Rattle.def_judgement.specs.Writes.{IsBrokenOff, IsTooLong}
use Rattle.read_bundle.specs.declared.fault.BundleFault.TheVariants as faults
use Rattle.read_bundle.proofs.PartSteps.{part_grows, part_fault, part_read, same_fault}
use Rattle.read_bundle.proofs.StreamParts.{fits_part, result_of_part}
use Rattle.read_bundle.proofs.parts.read_stream_part.Goals as goal

pub steps-preserved : goal.steps-preserved
steps-preserved g c =
    let names = (document_view c.args.spec.now).names in
    record {
      at = part_grows (Reads c.steps.stream names Open) (Reads c.feed_given.new.stream names Open)
          (g.R.ByteSource.left c.args.reader.now) (g.R.ByteSource.left c.steps.reader)
          (g.R.ByteSource.left c.next-in-steps.new.reader)
          c.args.bundle.now c.steps.bundle c.next-in-steps.new.self c.steps.next c.in_ok-next-2.next
          c.steps-test.ensures.yes c.steps.invariant.at (c.in_ok-feed_given.ensures names)
          c.in_ok-next-2.ensures.steps;
      ready = c.in_ok-next-2.ensures.ready;
    }

pub returns-clause-part : goal.returns-clause-part
returns-clause-part g c =
    let names = (document_view c.args.spec.now).names in
    rw c.begins_part.ensures (part_read (Reads c.steps.stream names Open)
    (IsResultOfPart names (result_view c.outcome.result)) (g.R.ByteSource.left c.args.reader.now)
    (g.R.ByteSource.left c.steps.reader) c.args.bundle.now c.steps.bundle c.steps.next
    c.steps-test.ensures.no c.steps.invariant.at
    (λ part reads. result_of_part names part c.end.new.self c.outcome.result c.outcome.ensures.value
    (c.in_ok-end.ensures.reads names part reads)))

pub returns-clause-fits : goal.returns-clause-fits
returns-clause-fits g c =
    let names = (document_view c.args.spec.now).names in
    let at = c.steps.invariant.at in
    fits_part names at.part c.end.new.self c.outcome.result c.outcome.ensures.fits
    (c.in_ok-end.ensures.reads names at.part at.holds_so_far)

pub returns-in_err-next-clause-long : goal.returns-in_err-next-clause-long
returns-in_err-next-clause-long g c reported = λ input closed cut.
    c.in_err-next.ensures.long (same_fault c.from_residual.result c.in_err-next.field-0.0 faults.Long
    c.from_residual.ensures.1 reported) input closed [] cut

pub returns-in_err-next-2-clause-long : goal.returns-in_err-next-2-clause-long
returns-in_err-next-2-clause-long g c reported =
    part_fault IsTooLong (Reads c.steps.stream (document_view c.args.spec.now).names Open)
    (g.R.ByteSource.left c.args.reader.now) (g.R.ByteSource.left c.steps.reader) c.args.bundle.now
    c.steps.bundle c.steps.next
    c.steps-test.ensures.yes c.steps.invariant.at
    (c.in_err-next-2.ensures.long (same_fault c.from_residual-in_err-next-2.result c.in_err-next-2.field-0.0
    faults.Long c.from_residual-in_err-next-2.ensures.1 reported))

pub returns-in_err-next-clause-cause : goal.returns-in_err-next-clause-cause
returns-in_err-next-clause-cause g c reported = λ input closed cut.
    c.in_err-next.ensures.cause (same_fault c.from_residual.result c.in_err-next.field-0.0 faults.Read
    c.from_residual.ensures.1 reported) input closed [] cut

pub returns-in_err-next-2-clause-cause : goal.returns-in_err-next-2-clause-cause
returns-in_err-next-2-clause-cause g c reported =
    part_fault IsBrokenOff (Reads c.steps.stream (document_view c.args.spec.now).names Open)
    (g.R.ByteSource.left c.args.reader.now) (g.R.ByteSource.left c.steps.reader) c.args.bundle.now
    c.steps.bundle c.steps.next
    c.steps-test.ensures.yes c.steps.invariant.at
    (c.in_err-next-2.ensures.cause (same_fault c.from_residual-in_err-next-2.result c.in_err-next-2.field-0.0
    faults.Read c.from_residual-in_err-next-2.ensures.1 reported))
