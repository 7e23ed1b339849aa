-- What is drawn by the session, or why it comes to no answers.
use Rattle.std.proofs.Common.{List, map, subst}
use Rattle.out_picture.specs.Scopes.{scope_view}
use Rattle.read_traces.specs.declared.event.Trace.{Trace}
use Rattle.pd_gather.specs.Views.{traces_view}
use Rattle.def_judgement.specs.Judgements.{IsTracesReport}
use Rattle.pd_report.specs.Views.{report_view}
use Rattle.pd_spec.specs.Views.{document_view}
use Rattle.judge_draw.specs.Drawings.{DrawsTraces, NeedsNoPicture}
use Rattle.judge_session.specs.SessionReports.{IsReportOfInputs}
use Rattle.judge_session.specs.Unanswered.{IsUnanswered, NamesNoCycle}
use Rattle.judge_session.specs.Inquiries.{inquiry_view}
use Rattle.judge_draw.proofs.SessionDrawings.{session_drawn}
use Rattle.judge_draw.proofs.SessionFindings.{read_report}
use Rattle.judge_session.proofs.SessionReports.{refusal_given}
use Rattle.judge_draw.proofs.drawings.draw_session.Goals as goal

pub returns-in_err-drawn-clause-refused : goal.returns-in_err-drawn-clause-refused
returns-in_err-drawn-clause-refused g c =
    let inquiry = inquiry_view c.args.inquiry in
    let inputs = map g.R.ByteSource.left c.args.streams.items in
    let document = document_view c.in_ok-session.session.spec in
    let traces = traces_view c.in_ok-session.session.traces.items in
    refusal_given c.from_residual-in_err-drawn.result c.in_err-drawn.field-0.0
    (IsTracesReport document traces) (IsReportOfInputs inquiry inputs)
    (λ report right. read_report inquiry inputs document traces report
    c.in_ok-session.ensures.read right)
    c.from_residual-in_err-drawn.ensures.1
    (subst (λ (all : List Trace). IsUnanswered (IsTracesReport document (traces_view all))
    c.in_err-drawn.field-0.0) c.deref.ensures.value c.in_err-drawn.ensures.refused)

pub returns-in_err-session-clause-undrawn : goal.returns-in_err-session-clause-undrawn
returns-in_err-session-clause-undrawn g c =
    let claimed = report_view c.args.claimed.now in
    refusal_given c.from_residual.result c.in_err-session.field-0.0 NamesNoCycle (NeedsNoPicture claimed)
    (λ report none same. none) c.from_residual.ensures.1 c.in_err-session.ensures.no_cycle

pub returns-in_err-drawn-clause-undrawn : goal.returns-in_err-drawn-clause-undrawn
returns-in_err-drawn-clause-undrawn g c =
    let claimed = report_view c.args.claimed.now in
    refusal_given c.from_residual-in_err-drawn.result c.in_err-drawn.field-0.0 (NeedsNoPicture claimed)
    (NeedsNoPicture claimed) (λ report none. none) c.from_residual-in_err-drawn.ensures.1
    c.in_err-drawn.ensures.undrawn

pub returns-clause-drawn : goal.returns-clause-drawn
returns-clause-drawn g c =
    let document = document_view c.in_ok-session.session.spec in
    let traces = traces_view c.in_ok-session.session.traces.items in
    session_drawn (inquiry_view c.args.inquiry) (map g.R.ByteSource.left c.args.streams.items)
    document traces (report_view c.args.claimed.now) (scope_view c.args.scope.now) c.in_ok-session.ensures.read
    c.in_ok-drawn.drawn
    (subst (λ (all : List Trace). DrawsTraces document (traces_view all) (report_view c.args.claimed.now)
    (scope_view c.args.scope.now) c.in_ok-drawn.drawn) c.deref.ensures.value c.in_ok-drawn.ensures.drawn)
