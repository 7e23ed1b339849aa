-- A flush changes nothing of what is written.
use Rattle.std.proofs.Common.{map}
use Rattle.app_arguments.specs.Views.{format_view}
use Rattle.judge_session.specs.Inquiries.{inquiry_view}
use Rattle.app_host.specs.Faults.{judgement_ending}
use Rattle.app_host.specs.FileSources.{ReadLeaves}
use Rattle.app_host.proofs.FlushedTexts.{handed_on, report_ends, report_fails, report_unflushed}
use Rattle.app_serve.specs.Served.{IsServed, OfServed}
use Rattle.app_serve.proofs.ServedTexts.{weaker_said_in}
use Rattle.app_serve.proofs.served.judge_served.Goals as goal

pub returns-in_err-report-clause-written : goal.returns-in_err-report-clause-written
returns-in_err-report-clause-written g c = λ fail_on.
    let format = format_view c.args.format in
    let asked = inquiry_view c.args.inquiry in
    let inputs = map g.R.ByteSource.left c.args.streams.items in
    let old = g.O.Write.contents c.args.output.now in
    let new = g.O.Write.contents c.write_served.new.output in
    handed_on (λ result. ReadLeaves (OfServed format inputs fail_on asked) (judgement_ending fail_on result) old new)
    c.from_residual.result c.in_err-report.field-0.0 c.from_residual.ensures.1
    (report_fails (IsServed format asked inputs) (weaker_said_in format asked inputs) c.in_err-report.field-0.0
    old new c.in_err-report.ensures.written c.in_err-report.ensures.err fail_on)

pub returns-then-is_err-clause-written : goal.returns-then-is_err-clause-written
returns-then-is_err-clause-written g c =
    let format = format_view c.args.format in
    let asked = inquiry_view c.args.inquiry in
    let inputs = map g.R.ByteSource.left c.args.streams.items in
    report_unflushed (IsServed format asked inputs) (weaker_said_in format asked inputs) c.in_ok-report.report
    (g.O.Write.contents c.args.output.now) (g.O.Write.contents c.write_served.new.output)
    (g.O.Write.contents c.flush.new.self) c.in_ok-report.ensures.written c.flush.ensures.bytes

pub returns-clause-written : goal.returns-clause-written
returns-clause-written g c =
    let format = format_view c.args.format in
    let asked = inquiry_view c.args.inquiry in
    let inputs = map g.R.ByteSource.left c.args.streams.items in
    report_ends (IsServed format asked inputs) (weaker_said_in format asked inputs) c.in_ok-report.report
    (g.O.Write.contents c.args.output.now) (g.O.Write.contents c.write_served.new.output)
    (g.O.Write.contents c.flush.new.self) c.in_ok-report.ensures.written c.flush.ensures.bytes
