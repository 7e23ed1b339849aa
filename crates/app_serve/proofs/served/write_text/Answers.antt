-- The text of the report is written.
use Rattle.std.proofs.Common.{map}
use Rattle.pd_report.specs.Views.{report_view}
use Rattle.judge_session.specs.Inquiries.{inquiry_view}
use Rattle.pd_engine.proofs.ReportTexts.{streams_written}
use Rattle.app_serve.proofs.served.write_text.Goals as goal

pub returns-clause-written : goal.returns-clause-written
returns-clause-written g c =
    let given = c.in_ok-report.ensures.report in
    streams_written (inquiry_view c.args.inquiry) (map g.R.ByteSource.left c.args.streams.items)
    (report_view c.in_ok-report.report) c.write_report.result (g.O.Write.contents c.args.output.now)
    (g.O.Write.contents c.write_report.new.writer)
    (record { streams = given.streams; are_given = given.are_given; right = given.right })
    c.write_report.ensures.written
