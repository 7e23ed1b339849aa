-- The report of the streams that were read, or of a document that is refused.
use Rattle.std.proofs.Common.{List, map}
use Rattle.def_format.specs.Reports.{Report}
use Rattle.pd_gather.specs.Views.{results_view}
use Rattle.def_judgement.specs.Judgements.{IsJudgement, IsReportOfResults, RawStream}
use Rattle.pd_spec.specs.Views.{document_view}
use Rattle.judge_session.specs.Inquiries.{inquiry_view}
use Rattle.judge_session.specs.SessionReports.{IsReportOfInputs}
use Rattle.judge_session.specs.Unanswered.{given_report}
use Rattle.judge_session.proofs.SessionReports.{inputs_report, of_given, refused_inputs_report}
use Rattle.pd_engine.proofs.SessionReports.{refusal_reported}
use Rattle.pd_engine.proofs.reports.session_report.Goals as goal

pub returns-in_err-spec : goal.returns-in_err-spec
returns-in_err-spec g c =
    let asked = inquiry_view c.args.inquiry in
    let inputs = map g.R.ByteSource.left c.args.readers.items in
    refusal_reported c.from_residual.result c.in_err-spec.field-0.0
    (λ (report : Report). (streams : List RawStream) → IsJudgement asked streams report)
    (IsReportOfInputs asked inputs)
    (refused_inputs_report asked inputs) c.from_residual.ensures.1
    c.in_err-spec.ensures.refused

pub returns : goal.returns
returns g c =
    let inputs = map g.R.ByteSource.left c.args.readers.items in
    let document = document_view c.in_ok-spec.spec in
    let count = c.in_ok-gathered.gathered.streams in
    let results = results_view c.in_ok-gathered.gathered.readings.items in
    of_given (given_report c.answered.result) (IsReportOfResults document count results)
    (IsReportOfInputs (inquiry_view c.args.inquiry) inputs)
    (λ (report : Report) right. inputs_report (inquiry_view c.args.inquiry) inputs document count results report
    c.in_ok-spec.ensures.read c.in_ok-gathered.ensures.given right)
    c.answered.ensures
