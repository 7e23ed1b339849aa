-- The report is added to the others.
use Rattle.std.proofs.Common.{refl}
use Rattle.judge_results.specs.Results.{report_data}
use Rattle.judge_results.proofs.RunsAdded.{report_added}
use Rattle.judge_results.proofs.results.Results.add_report.Goals as goal

pub returns : goal.returns
returns c = λ wanted wishes runs reports report are is.
    report_added wanted wishes runs reports (report_data c.args.name.now report) c.args.self.now
    (record {
      wanted = c.args.self.now.wanted;
      values = c.args.self.now.values;
      cases = c.args.self.now.cases;
      reports = c.push_report.new.out;
    })
    refl (c.in_ok-push_report.ensures report is) are
