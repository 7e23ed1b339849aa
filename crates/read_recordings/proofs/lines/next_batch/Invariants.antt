-- What the loop of `next_batch` keeps.
use Rattle.std.proofs.Common.{◌+◌, ◌≤◌, length}
use Rattle.pd_frames.specs.Views.{lines_view}
use Rattle.read_recordings.specs.Rests.{GoesOnTo}
use Rattle.read_recordings.proofs.lines.next_batch.Given as goal

-- The lines so far come first, and each took a byte at least.
abbrev pub invariant-lines : goal.invariant-lines
invariant-lines l = record {
  goes_on : GoesOnTo l.first l.bytes (lines_view l.lines.items) l.number l.rest;
  few : length l.lines.items + length l.rest ≤ length l.bytes;
}

abbrev pub decreases-lines : goal.decreases-lines
decreases-lines l = length l.rest
