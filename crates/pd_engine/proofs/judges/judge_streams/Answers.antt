-- What is written is the text of the session's report, and its truth.
use Rattle.std.proofs.Common.{map}
use Rattle.pd_report.specs.Views.{report_view}
use Rattle.judge_session.specs.Inquiries.{inquiry_view}
use Rattle.pd_engine.proofs.ReportTexts.{streams_written, whole_truth, whole_written}
use Rattle.pd_engine.proofs.SessionReports.{whole_report}
use Rattle.pd_engine.proofs.judges.judge_streams.Goals as goal

pub returns : goal.returns
returns g c =
    let document = inquiry_view c.args.inquiry in
    let inputs = map g.R.ByteSource.left c.args.readers.items in
    let report = report_view c.in_ok-report.report in
    let old = g.W.Write.contents c.args.writer.now in
    let new = g.W.Write.contents c.write_report.new.writer in
    let given = c.in_ok-report.ensures.given in
    let written = c.write_report.ensures.written in record {
      written = streams_written document inputs report c.write_report.result old new given written;
      err = c.write_report.ensures.err;
      whole = whole_written document inputs report c.write_report.result old new
          (whole_report document inputs report given) written;
      headline = whole_truth document inputs report c.write_report.result old new
          (whole_report document inputs report given) written;
    }
