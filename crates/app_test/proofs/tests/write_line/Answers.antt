-- A line is written as text.
use Rattle.app_test.proofs.RunLines.{line_cut, line_whole}
use Rattle.app_test.proofs.tests.write_line.Goals as goal

pub returns-in-Plain-clause-written : goal.returns-in-Plain-clause-written
returns-in-Plain-clause-written g c = λ wishes run is.
    rw c.in-Plain.is (line_whole wishes run c.args.line.now is (g.O.Write.contents c.args.output.now)
    (g.O.Write.contents c.write_flushed.new.output) c.write_flushed.result c.write_flushed.ensures.written)

pub returns-in-Plain-clause-left : goal.returns-in-Plain-clause-left
returns-in-Plain-clause-left g c = λ wishes run is.
    rw c.in-Plain.is (line_cut wishes run c.args.line.now is (g.O.Write.contents c.args.output.now)
    (g.O.Write.contents c.write_flushed.new.output) c.write_flushed.result c.write_flushed.ensures.part)
