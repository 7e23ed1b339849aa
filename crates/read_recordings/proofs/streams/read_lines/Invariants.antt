-- What the loop of `read_lines` keeps.
use Rattle.std.proofs.Common.{◌≡◌, ◌+◌, ◌≤◌, length}
use Rattle.def_format.specs.Readings.{with_end}
use Rattle.def_format.specs.ReadingLaws.{read_on}
use Rattle.def_recordings.specs.Recordings.{recorded_event_limit, recorded_reading}
use Rattle.pd_events.specs.Progress.{reading_view}
use Rattle.pd_spec.specs.Views.{document_view}
use Rattle.read_recordings.specs.Rests.{lines_from, stop_from}
use Rattle.read_recordings.proofs.streams.read_lines.Given as goal

-- What the lines so far gave, read on with the lines that are left, is the reading of all bytes.
abbrev pub invariant-batches : goal.invariant-batches
invariant-batches l = record {
  so_far : with_end (stop_from l.number l.rest)
      (read_on recorded_event_limit (document_view l.spec).names (reading_view l.progress.phase l.progress.events)
      (lines_from l.number l.rest))
      ≡ recorded_reading (document_view l.spec).names l.bytes;
  few : l.number + length l.rest ≤ length l.bytes + 1;
}

abbrev pub decreases-batches : goal.decreases-batches
decreases-batches l = length l.rest
