-- The report that stands is one of each run of which that was found.
use Rattle.std.proofs.Common.{refl}
use Rattle.pd_report.specs.Views.{report_view}
use Rattle.judge_shared.proofs.trial.final_outcome.Goals as goal

pub returns-in_ok-report-in-Judged : goal.returns-in_ok-report-in-Judged
returns-in_ok-report-in-Judged c =
    rw c.in-Judged.is (λ options sound is. (
      (λ document streams outcomes found. (
        report_view c.in_ok-report-in-Judged.report,
        refl,
        (c.in_ok-report-in-Judged.ensures options document streams outcomes sound found).0,
      )),
      (c.in_ok-report-in-Judged.ensures options is.0 is.1 is.2 sound is.3).1,
    ))
