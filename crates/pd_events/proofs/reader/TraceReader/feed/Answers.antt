-- Takes the next bytes of the stream.
use Rattle.def_format.specs.Readings.{Open}
use Rattle.pd_frames.specs.Views.{lines_view}
use Rattle.pd_events.proofs.ReaderSteps.{closed_reads, fed, not_open}
use Rattle.pd_events.proofs.reader.TraceReader.feed.Goals as goal

pub returns-then-is_closed-clause-reads : goal.returns-then-is_closed-clause-reads
returns-then-is_closed-clause-reads c =
    λ names bytes s. closed_reads c.closed_stays.ensures _ names Open bytes c.args.piece.now s
    c.if-is_closed.ensures.yes

pub returns-in_err-take_lines-clause-closed : goal.returns-in_err-take_lines-clause-closed
returns-in_err-take_lines-clause-closed c = λ closed. absurd (not_open _ closed c.if-is_closed.ensures.no)

pub returns-clause-reads : goal.returns-clause-reads
returns-clause-reads c = λ names bytes s.
    let r = rw (← c.self.view_is) at s in
    let still_open = rw (← c.self.view_is) at c.if-is_closed.ensures.no in
    let copied = rw (← c.in_ok-framer.ensures) at (r.framed still_open) in
    fed c.readings_go_on.ensures.batch _ c.feed.new.self names bytes c.args.piece.now
    (lines_view c.in_ok-batch.batch.lines.items) c.in_ok-batch.batch.fault _ r still_open
    (c.in_ok-batch.ensures.batch bytes copied) (c.in_ok-batch.ensures.stands bytes copied)
    (rw (c.faults_of.ensures, c.deref.ensures.value) at c.in_ok-take_lines.ensures.ok)

pub returns-clause-stays : goal.returns-clause-stays
returns-clause-stays c = λ closed. absurd (not_open _ closed c.if-is_closed.ensures.no)
