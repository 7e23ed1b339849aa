-- What is owed is written.
use Rattle.judge_explore.proofs.Written.{page_written}
use Rattle.judge_explore.proofs.explorations.write_page.Goals as goal

pub returns-clause-written : goal.returns-clause-written
returns-clause-written g c = λ inquiry form files inputs owed.
    page_written inquiry form files inputs c.args.page.text.items c.args.page.report c.write_text.result
    (g.W.Write.contents c.args.writer.now) (g.W.Write.contents c.write_text.new.writer) owed
    c.write_text.ensures.report c.write_text.ensures.written
