-- The report that is due of the streams is drawn, or they can't all be read.
use Rattle.std.proofs.Common.{◌∙◌, ℕ, Err, Global, List, Vec, ap, map, subst}
use Rattle.def_format.specs.Reports.{report_text}
use Rattle.def_judgement.specs.Writes.{Source, whole_source}
use Rattle.judge_session.specs.Inquiries.{inquiry_view}
use Rattle.out_picture.specs.Scopes.{scope_view}
use Rattle.pd_engine.specs.SessionReports.{IsTrueReportOfInputs}
use Rattle.pd_report.specs.Views.{report_view}
use Rattle.pd_spec.specs.Views.{options_view}
use Rattle.app_host.proofs.UnreadFiles.{keeps_same}
use Rattle.app_draw.specs.Drawings.{DrawReadLeaves, DrawsDue}
use Rattle.app_draw.proofs.DueDrawn.{own_drawn, own_unread}
use Rattle.app_draw.proofs.FilesDrawn.{all_know_whole}
use Rattle.app_draw.proofs.draw_own.draw_own.Goals as goal

pub returns-in-Err : goal.returns-in-Err
returns-in-Err g c =
    own_unread (map g.R.ByteSource.left c.args.streams.items) (scope_view c.args.scope.now)
    (inquiry_view c.args.inquiry) (g.O.Write.contents c.args.output.now) c.in-Err.fault
    (keeps_same (g.O.Write.contents c.args.output.now)) c.in-Err.ensures.err (λ e. c.in-Err.ensures.unread (ap Err e))

pub returns : goal.returns
returns g c =
    let inquiry = inquiry_view c.args.inquiry in
    let scope = scope_view c.args.scope.now in
    let old = g.O.Write.contents c.args.output.now in
    let new = g.O.Write.contents c.draw_due-end.new.output in
    let lefts = map g.R.ByteSource.left c.args.streams.items in
    let read = c.in-Ok.read.items in
    let wholes : List Source = map (λ bytes. whole_source bytes.items) read in
    let report = report_view c.in_ok-report.report in
    let first = c.in_ok-readers.ensures
    ∙ ap (λ (each : List (Vec ℕ Global)). map (λ bytes. whole_source bytes.items) each) c.deref.ensures.value in
    let second = c.in_ok-readers-2.ensures
    ∙ ap (λ (each : List (Vec ℕ Global)). map (λ bytes. whole_source bytes.items) each) c.deref-2.ensures.value in
    own_drawn (options_view c.args.inquiry.options.now) c.args.inquiry.document.now scope old new lefts wholes
    (all_know_whole (λ (bytes : Vec ℕ Global). bytes.items) lefts read c.in-Ok.ensures.read) report
    (subst (λ (inputs : List Source). IsTrueReportOfInputs inquiry inputs report) first c.in_ok-report.ensures.report)
    c.draw_due-end.result
    (subst (λ (inputs : List Source). DrawReadLeaves (DrawsDue (report_text report) inputs scope inquiry)
    c.draw_due-end.result old new) second c.draw_due-end.ensures.left) c.draw_due-end.ensures.err
