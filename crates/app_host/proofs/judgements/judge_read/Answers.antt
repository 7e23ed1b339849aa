-- A flush changes nothing of what is written.
use Rattle.std.proofs.Common.{map}
use Rattle.app_arguments.specs.Statuses.{OfStreams}
use Rattle.def_judgement.proofs.TextsOwed.{weaker_said_of_streams}
use Rattle.def_judgement.specs.Writes.{IsTextOfStreams}
use Rattle.judge_session.specs.Inquiries.{inquiry_view}
use Rattle.app_host.specs.Faults.{judgement_ending}
use Rattle.app_host.specs.FileSources.{ReadLeaves}
use Rattle.app_host.proofs.FlushedTexts.{handed_on, report_ends, report_fails, report_unflushed}
use Rattle.app_host.proofs.judgements.judge_read.Goals as goal

pub returns-in_err-report : goal.returns-in_err-report
returns-in_err-report g c = λ fail_on.
    let asked = inquiry_view c.args.inquiry in
    let inputs = map g.R.ByteSource.left c.args.streams.items in
    let old = g.O.Write.contents c.args.output.now in
    let new = g.O.Write.contents c.judge_inquiry.new.writer in
    handed_on (λ result. ReadLeaves (OfStreams inputs fail_on asked) (judgement_ending fail_on result) old new)
    c.from_residual.result c.in_err-report.field-0.0 c.from_residual.ensures.1
    (report_fails (IsTextOfStreams asked inputs) (weaker_said_of_streams asked inputs) c.in_err-report.field-0.0
    old new c.in_err-report.ensures.written c.in_err-report.ensures.err fail_on)

pub returns-then-is_err : goal.returns-then-is_err
returns-then-is_err g c =
    let asked = inquiry_view c.args.inquiry in
    let inputs = map g.R.ByteSource.left c.args.streams.items in
    report_unflushed (IsTextOfStreams asked inputs) (weaker_said_of_streams asked inputs) c.in_ok-report.report
    (g.O.Write.contents c.args.output.now) (g.O.Write.contents c.judge_inquiry.new.writer)
    (g.O.Write.contents c.flush.new.self) c.in_ok-report.ensures.written c.flush.ensures.bytes

pub returns : goal.returns
returns g c =
    let asked = inquiry_view c.args.inquiry in
    let inputs = map g.R.ByteSource.left c.args.streams.items in
    report_ends (IsTextOfStreams asked inputs) (weaker_said_of_streams asked inputs) c.in_ok-report.report
    (g.O.Write.contents c.args.output.now) (g.O.Write.contents c.judge_inquiry.new.writer)
    (g.O.Write.contents c.flush.new.self) c.in_ok-report.ensures.written c.flush.ensures.bytes
