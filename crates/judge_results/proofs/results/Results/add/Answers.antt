-- The run is added to both.
use Rattle.std.proofs.Common.{refl}
use Rattle.judge_runs.specs.Views.{outcome_view, wishes_view}
use Rattle.judge_results.proofs.RunsAdded.{one_added}
use Rattle.judge_results.proofs.results.Results.add.Goals as goal

pub returns : goal.returns
returns c = λ wanted before reports are.
    one_added wanted (wishes_view c.args.wishes.now) before
    (record { folder = c.args.folder.now; outcome = outcome_view c.args.outcome.now }) reports c.args.self.now
    (record {
      wanted = c.args.self.now.wanted;
      values = c.add_value.new.values;
      cases = c.add_case.new.cases;
      reports = c.args.self.now.reports;
    })
    refl refl c.in_ok-add_value.ensures c.in_ok-add_case.ensures are
