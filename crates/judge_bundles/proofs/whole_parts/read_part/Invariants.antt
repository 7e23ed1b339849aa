-- The bytes of the part so far.
use Rattle.std.proofs.Common.{◌≡◌, false}
use Rattle.read_bundle.specs.PartsRead.{AtStep}
use Rattle.read_bundle.specs.Steps.{turns_left}
use Rattle.judge_bundles.proofs.whole_parts.read_part.Given as goal

abbrev pub invariant-steps : goal.invariant-steps
invariant-steps g l = record {
  at : AtStep (λ part. l.bytes.items ≡ part) (g.R.ByteSource.left l.fn.reader) (g.R.ByteSource.left l.reader)
      l.fn.bundle l.bundle l.next;
  ready : l.bundle.ended ≡ false → g.R.ByteSource.has_ended l.reader ≡ false;
}

abbrev pub decreases-steps : goal.decreases-steps
decreases-steps g l = turns_left l.next l.bundle
