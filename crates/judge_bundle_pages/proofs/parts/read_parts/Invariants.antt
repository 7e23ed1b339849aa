-- The parts so far.
use Rattle.std.proofs.Common.{◌≡◌, ◌-◌, ◌∷◌, false, length}
use Rattle.def_format.specs.Limits.{stream_count_limit}
use Rattle.judge_bundle_pages.specs.Parts.{bytes_of}
use Rattle.read_bundle.specs.Steps.{HasParts}
use Rattle.judge_bundle_pages.proofs.parts.read_parts.Given as goal

abbrev pub invariant-streams : goal.invariant-streams
invariant-streams g l = record {
  has : HasParts l.begins (g.R.ByteSource.left l.fn.reader) (g.R.ByteSource.left l.reader)
      (l.document.items ∷ bytes_of l.streams.items) l.bundle;
  ready : l.bundle.ended ≡ false → g.R.ByteSource.has_ended l.reader ≡ false;
}

abbrev pub decreases-streams : goal.decreases-streams
decreases-streams g l = stream_count_limit - length l.streams.items
