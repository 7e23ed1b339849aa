-- What is found of a report by the session, or why it comes to no answers.
use Rattle.std.proofs.Common.{List, map, subst}
use Rattle.judge_check.specs.Views.{finding_view}
use Rattle.read_traces.specs.declared.event.Trace.{Trace}
use Rattle.pd_gather.specs.Views.{traces_view}
use Rattle.def_judgement.specs.Judgements.{IsTracesReport}
use Rattle.pd_report.specs.Views.{report_view}
use Rattle.pd_spec.specs.Views.{document_view}
use Rattle.judge_session.specs.Computations.{AreWellFormed}
use Rattle.judge_session.specs.SessionReports.{IsReportOfInputs}
use Rattle.judge_session.specs.Unanswered.{IsUnanswered}
use Rattle.judge_session.specs.Inquiries.{inquiry_view}
use Rattle.judge_draw.proofs.SessionFindings.{messages_counted, read_report, session_found}
use Rattle.judge_session.proofs.SessionReports.{refusal_given}
use Rattle.judge_draw.proofs.checks.find_in_session.Goals as goal

pub returns-in_err-computation-clause-refused : goal.returns-in_err-computation-clause-refused
returns-in_err-computation-clause-refused g c =
    let inquiry = inquiry_view c.args.inquiry in
    let inputs = map g.R.ByteSource.left c.args.streams.items in
    let document = document_view c.in_ok-session.session.spec in
    let traces = traces_view c.in_ok-session.session.traces.items in
    refusal_given c.from_residual-in_err-computation.result c.in_err-computation.field-0.0
    (IsTracesReport document traces) (IsReportOfInputs inquiry inputs)
    (λ report right. read_report inquiry inputs document traces report
    c.in_ok-session.ensures.read right)
    c.from_residual-in_err-computation.ensures.1
    (subst (λ (all : List Trace). IsUnanswered (IsTracesReport document (traces_view all))
    c.in_err-computation.field-0.0) c.deref.ensures.value c.in_err-computation.ensures.refused)

pub find_formed-requires-clause-counted : goal.find_formed-requires-clause-counted
find_formed-requires-clause-counted g c =
    messages_counted (document_view c.in_ok-session.session.spec) (traces_view c.deref.result.now)
    c.in_ok-computation.computation c.in_ok-computation.messages c.in_ok-computation.ensures.formed

pub returns-clause-found : goal.returns-clause-found
returns-clause-found g c =
    let inquiry = inquiry_view c.args.inquiry in
    let inputs = map g.R.ByteSource.left c.args.streams.items in
    let document = document_view c.in_ok-session.session.spec in
    let traces = traces_view c.in_ok-session.session.traces.items in
    let well : AreWellFormed document traces c.in_ok-computation.computation c.in_ok-computation.messages =
    subst (λ (all : List Trace). AreWellFormed document (traces_view all) c.in_ok-computation.computation
    c.in_ok-computation.messages) c.deref.ensures.value c.in_ok-computation.ensures.formed in
    session_found inquiry inputs document traces c.in_ok-computation.computation
    c.in_ok-computation.messages (report_view c.args.claimed.now) (finding_view c.in_ok-find_formed.field-0)
    c.in_ok-session.ensures.read well (c.in_ok-find_formed.ensures traces well.same)
