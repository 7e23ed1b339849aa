-- The parts that were skipped so far.
use Rattle.std.proofs.Common.{◌≡◌, false}
use Rattle.read_bundle.specs.Steps.{turns_left}
use Rattle.read_bundle.proofs.PartSteps.{HasSkipped}
use Rattle.read_bundle.proofs.parts.skip_parts.Given as goal

abbrev pub invariant-steps : goal.invariant-steps
invariant-steps g l = record {
  has : HasSkipped (g.R.ByteSource.left l.fn.reader) (g.R.ByteSource.left l.reader) l.fn.bundle l.bundle
      l.next;
  ready : l.bundle.ended ≡ false → g.R.ByteSource.has_ended l.reader ≡ false;
}

abbrev pub decreases-steps : goal.decreases-steps
decreases-steps g l = turns_left l.next l.bundle
