-- Reads the lines of a stream up to its end line or its first fault.
use Rattle.std.proofs.Common.{sym, ◌∙◌}
use Rattle.def_recordings.specs.Recordings.{recorded_event_limit}
use Rattle.pd_events.specs.Progress.{reading_view}
use Rattle.pd_frames.specs.Views.{lines_view}
use Rattle.read_recordings.specs.Rests.{lines_from, stop_from}
use Rattle.read_recordings.proofs.ReadingSteps.{after_batch, closed_stays}
use Rattle.read_recordings.proofs.streams.read_lines.Goals as goal

pub returns-then-is_closed-clause-reading : goal.returns-then-is_closed-clause-reading
returns-then-is_closed-clause-reading c =
    let batch = c.in_ok-batch.batch in
    let names = c.args.spec.now.names in
    let new = reading_view c.take_lines.new.self.phase c.take_lines.new.self.events in
    sym (closed_stays recorded_event_limit names (stop_from batch.number batch.rest.now) new
    (lines_from batch.number batch.rest.now) c.if-is_closed.ensures.yes)
    ∙ after_batch c.lines_are_read.ensures.read recorded_event_limit names _
    (reading_view c.batches.progress.phase c.batches.progress.events) new c.batches.number c.batches.rest.now
    (lines_view batch.lines.items) batch.number batch.rest.now batch.end c.batches.invariant.so_far
    c.in_ok-batch.ensures.goes_on c.in_ok-batch.ensures.ends
    (rw c.deref.ensures.value at c.in_ok-take_lines.ensures.ok)
