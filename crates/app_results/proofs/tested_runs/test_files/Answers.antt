-- What is left without pages is left with them.
use Rattle.app_arguments.specs.Views.{format_view, names_view}
use Rattle.judge_runs.specs.Views.{wishes_view}
use Rattle.pd_spec.specs.Views.{options_view}
use Rattle.app_test.proofs.WrittenTests.{nothing_left, unwritten_beside}
use Rattle.app_results.specs.RunReports.{IsReportOf}
use Rattle.app_results.proofs.tested_runs.test_files.Goals as goal

pub returns-then-not-are_ready : goal.returns-then-not-are_ready
returns-then-not-are_ready g c =
    nothing_left (g.Y.Files.FileSource.file_of c.args.world.now.files.now) (options_view c.args.test.now.options)
    (wishes_view c.args.test.now.wishes.items) (format_view c.args.test.now.format)
    (IsReportOf (g.Y.Files.FileSource.file_of c.args.world.now.files.now) (options_view c.args.test.now.options))
    (names_view c.args.test.now.runs.items)
    (g.O.Write.contents c.args.output.now)

pub returns-then-not-are_whole : goal.returns-then-not-are_whole
returns-then-not-are_whole g c =
    unwritten_beside (g.Y.Files.FileSource.file_of c.args.world.now.files.now) (options_view c.args.test.now.options)
    (wishes_view c.args.test.now.wishes.items) (format_view c.args.test.now.format)
    (IsReportOf (g.Y.Files.FileSource.file_of c.args.world.now.files.now) (options_view c.args.test.now.options))
    (names_view c.args.test.now.runs.items)
    (g.O.Write.contents c.args.output.now) (g.O.Write.contents c.test_all.new.output) c.in_ok-end.end
    c.in_ok-end.ensures
