-- The reports of the first runs are added.
use Rattle.std.proofs.Common.{take, true}
use Rattle.app_arguments.specs.Views.{names_view}
use Rattle.pd_spec.specs.Views.{options_view}
use Rattle.app_test.specs.TestedRuns.{AddsReports}
use Rattle.app_results.specs.RunReports.{IsReportOf}
use Rattle.app_results.proofs.reports.add_all.Given as goal

abbrev pub invariant-loop-name : goal.invariant-loop-name
invariant-loop-name g l =
    AddsReports (IsReportOf (g.Y.Files.FileSource.file_of l.world.files.now) (options_view l.test.options)) true
    (names_view (take l.name-index l.names)) l.fn.results l.results
