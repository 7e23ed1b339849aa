-- The line is written.
use Rattle.app_arguments.specs.Views.{format_view}
use Rattle.judge_runs.specs.Views.{wishes_view}
use Rattle.std.proofs.Common.{[], ◌∷◌}
use Rattle.app_test.specs.Jobs.{run_of}
use Rattle.app_test.proofs.RunLines.{all_lines, on_err}
use Rattle.app_test.proofs.tests.put_known.Goals as goal

pub returns-in_err-add-clause-left : goal.returns-in_err-add-clause-left
returns-in_err-add-clause-left g c =
    on_err c.from_residual-in_err-add.result
    (all_lines (format_view c.args.asked.now.format) (wishes_view c.args.asked.now.wishes.now)
    (run_of c.args.folder.now c.args.outcome.now ∷ []) (g.O.Write.contents c.args.output.now)
    (g.O.Write.contents c.write_run.new.output) c.in_ok-write_run.ensures.written)

pub returns-in_err-note_failing-clause-left : goal.returns-in_err-note_failing-clause-left
returns-in_err-note_failing-clause-left g c =
    on_err c.from_residual-in_err-note_failing.result
    (all_lines (format_view c.args.asked.now.format) (wishes_view c.args.asked.now.wishes.now)
    (run_of c.args.folder.now c.args.outcome.now ∷ []) (g.O.Write.contents c.args.output.now)
    (g.O.Write.contents c.write_run.new.output) c.in_ok-write_run.ensures.written)

pub returns-clause-written : goal.returns-clause-written
returns-clause-written g c = record {
  stands = λ wanted earlier reports are. record {
    tally = c.in_ok-write_run.ensures.stands earlier are.tally;
    results = c.in_ok-add.ensures wanted earlier reports are.results;
  };
  written = c.in_ok-write_run.ensures.written;
  failing = c.in_ok-note_failing.ensures;
}
