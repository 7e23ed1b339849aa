-- The line of the run is written, or a prefix of it.
use Rattle.judge_runs.specs.Views.{wishes_view}
use Rattle.std.proofs.Common.{◌∙◌}
use Rattle.app_test.specs.Jobs.{run_of}
use Rattle.app_test.proofs.tests.write_run.Goals as goal

pub returns-clause-written : goal.returns-clause-written
returns-clause-written g c =
    c.write_line.ensures.written (wishes_view c.args.asked.now.wishes.now)
    (run_of c.args.folder.now c.args.outcome.now) (c.deref.ensures.value ∙ c.in_ok-line.ensures.line)

pub returns-clause-left : goal.returns-clause-left
returns-clause-left g c =
    c.write_line.ensures.left (wishes_view c.args.asked.now.wishes.now)
    (run_of c.args.folder.now c.args.outcome.now) (c.deref.ensures.value ∙ c.in_ok-line.ensures.line)
