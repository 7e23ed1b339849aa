-- The report of streams that an observer watches is true.
use Rattle.std.proofs.lemmas.Result.{IfOk-weaker}
use Rattle.pd_engine.proofs.reports.report_inquiry_watched.Goals as goal

pub returns-clause-report : goal.returns-clause-report
returns-clause-report g c =
    IfOk-weaker c.streams_report.result _ _ (λ _ is. record {
      streams = is.streams;
      are_given = is.are_given;
      right = is.right;
      truth = c.judgement_is_true.ensures _ _ _ is.right;
    }) c.streams_report.ensures.given
