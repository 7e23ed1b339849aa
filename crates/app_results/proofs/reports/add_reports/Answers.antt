-- The reports are added if they are wanted.
use Rattle.std.proofs.Common.{Bool, ap, subst, sym, ◌∙◌}
use Rattle.std.specs.Prelude.{OnOk}
use Rattle.app_arguments.specs.Views.{names_view}
use Rattle.pd_spec.specs.Views.{options_view}
use Rattle.app_test.specs.TestedRuns.{AddsReports, wanted_by}
use Rattle.judge_results.specs.declared.results.Wanted.{Wanted}
use Rattle.app_results.specs.RunReports.{IsReportOf}
use Rattle.app_results.proofs.ReportsAdded.{met, not_met, unwanted}
use Rattle.app_results.proofs.reports.add_reports.Goals as goal

pub returns-then-not-wanted_by-clause-added : goal.returns-then-not-wanted_by-clause-added
returns-then-not-wanted_by-clause-added g c =
    unwanted
    (IsReportOf (g.Y.Files.FileSource.file_of c.args.world.now.files.now) (options_view c.args.test.now.options))
    (wanted_by c.args.test.now).json (names_view c.args.names.now) c.args.results.now
    (ap (λ (wanted : Wanted). wanted.json) (sym c.wanted_by.ensures)
    ∙ not_met c.wanted_by.result.json c.if-not-wanted_by.true)

pub returns-clause-added : goal.returns-clause-added
returns-clause-added g c =
    subst (λ (is_wanted : Bool). OnOk c.add_all.result (AddsReports
    (IsReportOf (g.Y.Files.FileSource.file_of c.args.world.now.files.now) (options_view c.args.test.now.options))
    is_wanted (names_view c.args.names.now) c.args.results.now c.add_all.new.results))
    (sym (ap (λ (wanted : Wanted). wanted.json) (sym c.wanted_by.ensures)
    ∙ met c.wanted_by.result.json c.if-not-wanted_by.false))
    c.add_all.ensures.added
