-- What the walk keeps: the level is whole, and its skipped are right.
use Rattle.walk_marks.specs.SkippedRuns.{AreSkipped}
use Rattle.walk_runs.specs.Levels.{IsWholeLevel}
use Rattle.test_walk.proofs.skipped.skipping_levels.Given as goal

abbrev pub invariant-loop : goal.invariant-loop
invariant-loop _ l = record {
  level : IsWholeLevel l.steps l.level;
  skipped : AreSkipped l.tests l.level l.skipped;
}
