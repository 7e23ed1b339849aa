-- The bytes of the stream so far.
use Rattle.std.proofs.Common.{◌≡◌, false}
use Rattle.read_bundle.specs.PartsRead.{AtStep}
use Rattle.read_bundle.specs.Steps.{turns_left}
use Rattle.pd_events.specs.Reads.{Reads}
use Rattle.def_format.specs.Readings.{Open}
use Rattle.pd_spec.specs.Views.{document_view}
use Rattle.read_bundle.proofs.parts.read_stream_part.Given as goal

abbrev pub invariant-steps : goal.invariant-steps
invariant-steps g l = record {
  at : AtStep (Reads l.stream (document_view l.spec).names Open) (g.R.ByteSource.left l.fn.reader)
      (g.R.ByteSource.left l.reader) l.fn.bundle l.bundle l.next;
  ready : l.bundle.ended ≡ false → g.R.ByteSource.has_ended l.reader ≡ false;
}

abbrev pub decreases-steps : goal.decreases-steps
decreases-steps g l = turns_left l.next l.bundle
