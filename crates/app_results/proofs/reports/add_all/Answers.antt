-- One more report after each turn.
use Rattle.pd_spec.specs.Views.{options_view}
use Rattle.app_results.specs.RunReports.{IsReportOf}
use Rattle.app_results.proofs.ReportsAdded.{next_added, none_added}
use Rattle.app_results.proofs.reports.add_all.Goals as goal

pub loop-name-init : goal.loop-name-init
loop-name-init g c =
    none_added
    (IsReportOf (g.Y.Files.FileSource.file_of c.args.world.now.files.now) (options_view c.args.test.now.options))
    c.args.results.now

pub loop-name-preserved : goal.loop-name-preserved
loop-name-preserved g c =
    next_added
    (IsReportOf (g.Y.Files.FileSource.file_of c.args.world.now.files.now) (options_view c.args.test.now.options))
    c.args.names.now c.loop-name.name-index _ c.loop-name-test.true c.args.results.now c.loop-name.results
    c.add_report.new.results c.loop-name.invariant c.in_ok-add_report.ensures.added
