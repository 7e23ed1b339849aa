-- A flush changes nothing of what is written.
use Rattle.std.proofs.Common.{◌≡◌, Err, Ok, inr, map, subst, sym}
use Rattle.std.specs.Prelude.{IsErrAnd, Result}
use Rattle.judge_explore.specs.Explored.{IsOwed}
use Rattle.judge_explore.specs.FileViews.{files_view}
use Rattle.judge_explore.specs.Forms.{form_view}
use Rattle.judge_explore.proofs.Written.{owed_weaker}
use Rattle.judge_session.specs.Inquiries.{inquiry_view}
use Rattle.app_host.specs.Faults.{judgement_ending}
use Rattle.app_host.specs.FileSources.{ReadLeaves}
use Rattle.app_arguments.specs.Statuses.{OfReport}
use Rattle.judge_session.specs.declared.fault.EngineFault.{EngineFault}
use Rattle.pd_report.specs.declared.report.Report.{Report}
use Rattle.app_host.proofs.FlushedTexts.{report_ends, report_fails, report_unflushed}
use Rattle.app_explore.proofs.exploration.explore_read.Goals as goal

-- what is handed on is this fault
handed_on : (P : Result Report EngineFault → Type 0) (result : Result Report EngineFault) (fault : EngineFault)
    → IsErrAnd result (λ e. e ≡ fault) → P (Err fault) → P result
handed_on P (Ok report) fault is held = absurd is
handed_on P (Err other) fault is held = subst (λ (e : EngineFault). P (Err e)) (sym is) held

pub returns-in_err-report-clause-written : goal.returns-in_err-report-clause-written
returns-in_err-report-clause-written g c = λ fail_on.
    let asked = inquiry_view c.args.inquiry in
    let form = form_view c.args.form in
    let files = files_view c.args.sources.now in
    let inputs = map g.R.ByteSource.left c.args.streams.items in
    let old = g.O.Write.contents c.args.output.now in
    let new = g.O.Write.contents c.write_page.new.writer in
    handed_on (λ result. ReadLeaves (OfReport (IsOwed asked form files inputs) fail_on)
    (judgement_ending fail_on result) old new) c.from_residual-in_err-report.result c.in_err-report.field-0.0
    c.from_residual-in_err-report.ensures.1
    (report_fails (IsOwed asked form files inputs) (owed_weaker asked form files inputs) c.in_err-report.field-0.0
    old new (c.in_err-report.ensures.written asked form files inputs c.in_ok-page.ensures.page)
    (inr c.in_err-report.ensures.err) fail_on)

pub returns-then-is_err-clause-written : goal.returns-then-is_err-clause-written
returns-then-is_err-clause-written g c =
    let asked = inquiry_view c.args.inquiry in
    let form = form_view c.args.form in
    let files = files_view c.args.sources.now in
    let inputs = map g.R.ByteSource.left c.args.streams.items in
    report_unflushed (IsOwed asked form files inputs) (owed_weaker asked form files inputs) c.in_ok-report.report
    (g.O.Write.contents c.args.output.now) (g.O.Write.contents c.write_page.new.writer)
    (g.O.Write.contents c.flush.new.self)
    (c.in_ok-report.ensures.written asked form files inputs c.in_ok-page.ensures.page) c.flush.ensures.bytes

pub returns-clause-written : goal.returns-clause-written
returns-clause-written g c =
    let asked = inquiry_view c.args.inquiry in
    let form = form_view c.args.form in
    let files = files_view c.args.sources.now in
    let inputs = map g.R.ByteSource.left c.args.streams.items in
    report_ends (IsOwed asked form files inputs) (owed_weaker asked form files inputs) c.in_ok-report.report
    (g.O.Write.contents c.args.output.now) (g.O.Write.contents c.write_page.new.writer)
    (g.O.Write.contents c.flush.new.self)
    (c.in_ok-report.ensures.written asked form files inputs c.in_ok-page.ensures.page) c.flush.ensures.bytes
