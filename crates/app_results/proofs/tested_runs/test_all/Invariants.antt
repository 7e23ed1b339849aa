-- The first runs are tested.
use Rattle.std.proofs.Common.{◌-◌, ◌≤◌, drop, length}
use Rattle.app_arguments.specs.Views.{format_view, names_view}
use Rattle.app_test.specs.TestedRuns.{wanted_by}
use Rattle.judge_runs.specs.Views.{wishes_view}
use Rattle.judge_shared.specs.Sharing.{AreSound}
use Rattle.pd_spec.specs.Views.{options_view}
use Rattle.app_results.proofs.TestsSoFar.{IsTestedTo}
use Rattle.app_results.proofs.tested_runs.test_all.Given as goal

abbrev pub invariant-loop-from : goal.invariant-loop-from
invariant-loop-from g l = record {
  tested : IsTestedTo (g.Y.Files.FileSource.file_of l.world.files.now) (options_view l.test.options)
      (wishes_view l.test.wishes.items) (format_view l.test.format) (wanted_by l.test)
      (names_view l.test.runs.items) (drop l.from (names_view l.test.runs.items)) l.tested.records
      (g.O.Write.contents l.fn.output) (g.O.Write.contents l.output);
  sound : AreSound (options_view l.test.options) l.tested.orders;
  within : l.from ≤ length l.test.runs.items;
}

abbrev pub decreases-loop-from : goal.decreases-loop-from
decreases-loop-from g l = length l.test.runs.items - l.from
