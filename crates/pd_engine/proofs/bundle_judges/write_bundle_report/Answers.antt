-- What is written is the text of the bundle's report, and its truth.
use Rattle.pd_report.specs.Views.{report_view}
use Rattle.pd_engine.proofs.ReportTexts.{bundle_truth, bundle_written, write_not_long, write_not_read}
use Rattle.pd_engine.proofs.bundle_judges.write_bundle_report.Goals as goal

pub returns : goal.returns
returns g c =
    let read = c.in_ok-report.ensures.report in
    let input = g.R.ByteSource.left c.args.reader in
    let report = report_view c.in_ok-report.report in
    let result = c.write_report.result in
    let old = g.W.Write.contents c.args.writer.now in
    let new = g.W.Write.contents c.write_report.new.writer in
    let written = c.write_report.ensures.written in record {
      written = bundle_written input read.bundle report result old new read.is_given read.fits read.right written;
      headline = bundle_truth input read.bundle report result old new read.is_given read.fits read.right written;
      long = λ e. absurd (write_not_long result c.write_report.ensures.err e);
      cause = λ e. absurd (write_not_read result c.write_report.ensures.err e);
    }
