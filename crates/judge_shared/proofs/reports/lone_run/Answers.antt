-- The report is that of a judgement.
use Rattle.pd_report.specs.Views.{report_view}
use Rattle.pd_spec.specs.Views.{document_view}
use Rattle.judge_shared.specs.Sharing.{answers_view}
use Rattle.judge_shared.proofs.RunFacts.{own_results}
use Rattle.judge_shared.proofs.reports.lone_run.Goals as goal

pub returns : goal.returns
returns g c =
    λ options bytes traces streams outcomes joined well. record {
      is_report =
          own_results (document_view c.args.spec.now) streams outcomes traces c.args.computation.now c.args.messages
          (answers_view c.in_ok-answers.answers.items) (report_view c.judged.result) joined well c.in_ok-answers.ensures
          c.judged.ensures;
      fresh = tt;
    }
