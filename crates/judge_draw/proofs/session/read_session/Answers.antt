-- Why a session comes to no answers before its messages are matched, and what is read of it.
use Rattle.std.proofs.Common.{List, map}
use Rattle.def_format.specs.Reports.{Report}
use Rattle.pd_gather.specs.Views.{results_view}
use Rattle.def_judgement.specs.Judgements.{IsJudgement, IsReportOfResults, RawStream}
use Rattle.def_format.specs.Limits.{event_limit}
use Rattle.pd_spec.specs.Views.{document_view}
use Rattle.judge_session.specs.SessionReports.{IsReportOfInputs}
use Rattle.judge_session.specs.Unanswered.{NamesNoCycle}
use Rattle.judge_session.proofs.SessionReports.{inputs_report, refusal_given, refused_inputs_report}
use Rattle.judge_session.specs.Inquiries.{inquiry_view}
use Rattle.judge_draw.proofs.session.read_session.Goals as goal

pub returns-in_err-spec-clause-refused : goal.returns-in_err-spec-clause-refused
returns-in_err-spec-clause-refused g c =
    let inquiry = inquiry_view c.args.inquiry in
    let inputs = map g.R.ByteSource.left c.args.streams.items in
    refusal_given c.from_residual.result c.in_err-spec.field-0.0
    (λ (report : Report). (streams : List RawStream) → IsJudgement inquiry streams report)
    (IsReportOfInputs inquiry inputs)
    (λ report any. refused_inputs_report inquiry inputs report any)
    c.from_residual.ensures.1
    c.in_err-spec.ensures.refused

pub returns-in_err-traces-clause-refused : goal.returns-in_err-traces-clause-refused
returns-in_err-traces-clause-refused g c =
    let inquiry = inquiry_view c.args.inquiry in
    let inputs = map g.R.ByteSource.left c.args.streams.items in
    let document = document_view c.in_ok-spec.spec in
    let count = c.in_ok-gathered.gathered.streams in
    let results = results_view c.in_ok-gathered.gathered.readings.items in
    refusal_given c.from_residual-in_err-traces.result c.in_err-traces.field-0.0
    (IsReportOfResults document count results) (IsReportOfInputs inquiry inputs)
    (λ report right. inputs_report inquiry inputs document count results report
    c.in_ok-spec.ensures.read
    c.in_ok-gathered.ensures.given right)
    c.from_residual-in_err-traces.ensures.1 c.in_err-traces.ensures.refused

pub returns-in_err-spec-clause-no_cycle : goal.returns-in_err-spec-clause-no_cycle
returns-in_err-spec-clause-no_cycle g c =
    refusal_given c.from_residual.result c.in_err-spec.field-0.0 NamesNoCycle NamesNoCycle (λ report none. none)
    c.from_residual.ensures.1 c.in_err-spec.ensures.no_cycle

pub returns-in_err-traces-clause-no_cycle : goal.returns-in_err-traces-clause-no_cycle
returns-in_err-traces-clause-no_cycle g c =
    refusal_given c.from_residual-in_err-traces.result c.in_err-traces.field-0.0 NamesNoCycle NamesNoCycle
    (λ report none. none) c.from_residual-in_err-traces.ensures.1 c.in_err-traces.ensures.no_cycle

pub returns-clause-read : goal.returns-clause-read
returns-clause-read g c = record {
  is_document = c.in_ok-spec.ensures.read;
  streams = c.in_ok-gathered.ensures.given.0;
  are_given = c.in_ok-gathered.ensures.given.1;
  count = c.in_ok-gathered.gathered.streams;
  results = results_view c.in_ok-gathered.gathered.readings.items;
  comes = c.in_ok-gathered.ensures.given.2;
  joined = c.in_ok-traces.ensures.joined;
}

pub returns-clause-fit : goal.returns-clause-fit
returns-clause-fit g c = c.in_ok-traces.ensures.fit event_limit c.in_ok-gathered.ensures.fit
