-- The report of the run is added.
use Rattle.std.proofs.Common.{List, ℕ, subst, sym}
use Rattle.pd_spec.specs.Views.{options_view}
use Rattle.app_results.specs.RunReports.{IsReportText}
use Rattle.app_results.proofs.ReportsAdded.{report_added}
use Rattle.app_results.proofs.reports.add_report.Goals as goal

pub returns-clause-added : goal.returns-clause-added
returns-clause-added g c =
    let files = g.Y.Files.FileSource.file_of c.args.world.now.files.now in
    let options = options_view c.args.test.now.options in
    report_added files options c.args.name.now c.deref.result.now
    (subst (λ (text : List ℕ). IsReportText files options c.args.name.now text) (sym c.deref.ensures.value)
    c.in_ok-text.ensures.report) c.args.results.now c.add_report.new.self
    (λ wanted wishes runs reports report are is. c.in_ok-add_report.ensures wanted wishes runs reports report are is)
