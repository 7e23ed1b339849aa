-- Takes the end of the input, after which the reader is closed.
use Rattle.std.proofs.Common.{true, ap}
use Rattle.def_format.specs.Readings.{Reading, Ended}
use Rattle.pd_frames.specs.Views.{lines_view}
use Rattle.pd_events.proofs.ReaderSteps.{closed_ends, ended, ends_closed}
use Rattle.pd_events.proofs.reader.TraceReader.end.Goals as goal

pub returns-then-is_closed-clause-reads : goal.returns-then-is_closed-clause-reads
returns-then-is_closed-clause-reads c =
    λ names bytes s. closed_ends c.closed_stays.ensures _ names Ended bytes s c.if-is_closed.ensures.yes

pub returns-clause-reads : goal.returns-clause-reads
returns-clause-reads c = λ names bytes s.
    let r = rw (← c.self.view_is) at s in
    let still_open = rw (← c.self.view_is) at c.if-is_closed.ensures.no in
    let copied = rw (← c.in_ok-framer.ensures) at (r.framed still_open) in
    let finished = c.in_ok-batch.ensures.stands bytes copied in
    ended c.readings_go_on.ensures.sound c.readings_go_on.ensures.end _ c.finish.new.self names bytes
    (lines_view c.in_ok-batch.batch.lines.items) c.line.result _ r still_open
    (c.in_ok-batch.ensures.lines bytes copied) (c.line.ensures bytes true finished)
    (rw c.deref.ensures.value at c.in_ok-take_lines.ensures.ok)

pub returns-clause-closes : goal.returns-clause-closes
returns-clause-closes c = ends_closed _ _ _ _ (ap (λ (x : Reading). x.stop) c.in_ok-take_lines.ensures.ok)
