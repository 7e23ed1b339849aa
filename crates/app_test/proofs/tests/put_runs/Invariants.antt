-- The lines of the first runs are written.
use Rattle.app_arguments.specs.Views.{format_view, names_view}
use Rattle.judge_runs.specs.Views.{wishes_view}
use Rattle.app_test.proofs.RunLines.{AreWritten}
use Rattle.app_test.proofs.tests.put_runs.Given as goal

abbrev pub invariant-loop-place : goal.invariant-loop-place
invariant-loop-place g l =
    AreWritten (format_view l.asked.format) (wishes_view l.asked.wishes.now) l.asked.lists_failing
    (names_view l.folders) l.found l.place l.fn.records l.records (names_view l.failing.items)
    (g.O.Write.contents l.fn.output) (g.O.Write.contents l.output)
