-- The report of what the streams gave is the session's, and it is true.
use Rattle.std.proofs.Common.{map, string_bytes}
use Rattle.std.proofs.lemmas.Result.{IfOk-weaker}
use Rattle.def_judgement.specs.Judgements.{ended_streams}
use Rattle.pd_gather.specs.Views.{results_view}
use Rattle.pd_report.specs.Views.{report_view}
use Rattle.pd_spec.specs.Views.{document_view}
use Rattle.app_batch.proofs.TextResults.{judged_of}
use Rattle.app_batch.proofs.texts.report_of_texts.Goals as goal

pub returns-clause-right : goal.returns-clause-right
returns-clause-right g c =
    IfOk-weaker c.report_of.result _ _ (λ report right inquiry is.
    judged_of inquiry (document_view c.args.spec.now) c.args.streams.now c.in_ok-gathered.gathered.streams
    (results_view c.in_ok-gathered.gathered.readings.items) (report_view report) is c.in_ok-gathered.ensures.results
    c.in_ok-gathered.ensures.count right) c.report_of.ensures.report

pub returns-clause-truth : goal.returns-clause-truth
returns-clause-truth g c =
    IfOk-weaker c.report_of.result _ _ (λ report right inquiry is.
    c.judgement_is_true.ensures inquiry (ended_streams (map string_bytes c.args.streams.now)) (report_view report)
    (judged_of inquiry (document_view c.args.spec.now) c.args.streams.now c.in_ok-gathered.gathered.streams
    (results_view c.in_ok-gathered.gathered.readings.items) (report_view report) is c.in_ok-gathered.ensures.results
    c.in_ok-gathered.ensures.count right)) c.report_of.ensures.report
