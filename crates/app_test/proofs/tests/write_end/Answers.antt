-- A prefix of the summary and the line of orders is written.
use Rattle.std.proofs.Common.{◌++◌, ◌∙◌}
use Rattle.judge_runs.specs.Tallies.{summary_text}
use Rattle.app_test.specs.Tests.{orders_text}
use Rattle.app_test.proofs.RunLines.{end_cut}
use Rattle.app_test.proofs.tests.write_end.Goals as goal

pub returns-in_ok-summary-in-Plain-clause-left : goal.returns-in_ok-summary-in-Plain-clause-left
returns-in_ok-summary-in-Plain-clause-left g c = λ wishes runs reports stands json.
    rw c.in-Plain.is (end_cut c.deref.result.now (summary_text wishes runs ++ orders_text c.args.orders)
    (c.deref.ensures.value ∙ c.in_ok-summary-in-Plain.ensures wishes runs stands) (g.O.Write.contents c.args.output.now)
    (g.O.Write.contents c.write_flushed.new.output) c.write_flushed.result c.write_flushed.ensures.part)
