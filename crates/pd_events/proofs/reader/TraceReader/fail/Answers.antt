-- Takes it that a read of the input failed, after which the reader is closed.
use Rattle.std.proofs.Common.{false, ap}
use Rattle.def_format.specs.Readings.{Reading}
use Rattle.pd_events.proofs.ReaderSteps.{failed, ends_closed}
use Rattle.pd_events.proofs.reader.TraceReader.fail.Goals as goal

pub returns-clause-reads : goal.returns-clause-reads
returns-clause-reads c = λ names bytes s.
    let r = rw (← c.self.view_is) at s in
    let still_open = rw (← c.self.view_is) at c.if-is_closed.ensures.no in
    failed c.readings_go_on.ensures.sound c.readings_go_on.ensures.failure _ names bytes c.line.result _ r still_open
    (c.line.ensures bytes false (r.framed still_open)) c.end_by.ensures

pub returns-clause-closes : goal.returns-clause-closes
returns-clause-closes c = ends_closed _ _ _ _ (ap (λ (x : Reading). x.stop) c.end_by.ensures)
