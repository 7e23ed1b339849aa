-- The same of bytes without an LF, so that no line ends.
use Rattle.std.proofs.Common.{[]}
use Rattle.pd_frames.specs.Views.{frame_faults_view, lines_view}
use Rattle.pd_events.proofs.ReaderSteps.{open_stop, fed, no_line}
use Rattle.pd_events.proofs.reader.TraceReader.feed_part.Goals as goal

pub returns-clause-reads : goal.returns-clause-reads
returns-clause-reads c = λ names bytes s.
    let r = rw (← c.self.view_is) at s in
    let still_open = rw (← c.self.view_is) at c.requires.open in
    let sound = c.readings_go_on.ensures.sound names bytes (open_stop _ names bytes r still_open) in
    let batch =
    no_line c.lines_grow.ensures.part c.lines_grow.ensures.faulty_part bytes c.args.piece.now
    (lines_view c.in_ok-batch.batch.lines.items) (frame_faults_view c.in_ok-batch.batch.fault) sound c.requires.part
    (c.in_ok-batch.ensures.batch bytes (r.framed still_open)) in
    fed c.readings_go_on.ensures.batch _ c.feed.new.self names bytes c.args.piece.now [] c.in_ok-batch.batch.fault _ r
    still_open batch (c.in_ok-batch.ensures.stands bytes (r.framed still_open))
    (rw c.faults_of.ensures at c.end_by.ensures)
