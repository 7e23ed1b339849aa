-- The streams so far.
use Rattle.std.proofs.Common.{◌≡◌, ◌-◌, ◌≤◌, false, All, length}
use Rattle.def_format.specs.Limits.{stream_count_limit}
use Rattle.pd_gather.specs.Views.{ReadingFits, results_view}
use Rattle.pd_spec.specs.Views.{document_view}
use Rattle.read_bundle.proofs.StreamParts.{HasStreams}
use Rattle.read_bundle.proofs.parts.read_stream_parts.Given as goal

abbrev pub invariant-streams : goal.invariant-streams
invariant-streams g l = record {
  has : HasStreams (document_view l.spec).names (g.R.ByteSource.left l.fn.reader)
      (g.R.ByteSource.left l.reader) l.fn.bundle l.bundle l.fn.begins l.begins (results_view l.readings.items);
  fit : All (ReadingFits (document_view l.spec).names) l.readings.items;
  few : length l.readings.items ≤ stream_count_limit;
  ready : l.bundle.ended ≡ false → g.R.ByteSource.has_ended l.reader ≡ false;
}

abbrev pub decreases-streams : goal.decreases-streams
decreases-streams g l = stream_count_limit - length l.readings.items
