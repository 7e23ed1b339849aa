-- What holds of a task: one predicate at a whole level.
use Rattle.std.specs.Prelude.{◌≡◌, ℕ, ◌*◌, ◌<◌, ◌≤◌, Bool, List, slice_index_or}
use Rattle.walk_back.specs.CompiledTests.{events_of, meaning_of}
use Rattle.def_format.specs.Limits.{event_limit}
use Rattle.walk_marks.specs.Skips.{HaveNoHits}
use Rattle.def_model.specs.Cuts.{total}
use Rattle.def_model.specs.Events.{Computation, event_count}
use Rattle.def_model.specs.Order.{HasNoCycle}
use Rattle.walk_runs.specs.Levels.{IsWholeLevel, WholeLevel}
use Rattle.walk_tables.specs.Views.{CompiledView}
use Rattle.walk.specs.Rounds.{IsNextOfWhole}
use Rattle.walk.specs.Stages.{AreBeside, OneStands}
use Rattle.walk.specs.declared.round.Round.{Round}
use Rattle.walk.specs.declared.stage.Stage.{Stage}
use Rattle.walk.specs.declared.task.Task.{Task}

-- the computation of the predicate
abbrev pub task_events : {K : Type 0} → Task K → Computation
task_events task = events_of task.test.now

-- whether a cut satisfies it
abbrev pub task_test : {K : Type 0} → Task K → List ℕ → Bool
task_test task = meaning_of task.test.now

-- The predicate's computation is within the limits, and the level is one of its whole levels. No cut of a run that is
-- skipped satisfies, and so many whole levels were held at once.
pub record IsTask {K : Type 0} (task : Task K) : Type 0 where
  pub acyclic : HasNoCycle (task_events task)
  pub short : (p : ℕ) → event_count (task_events task) p ≤ event_limit
  pub whole : IsWholeLevel (task_events task) task.level.now
  pub within : task.level.now.number ≤ total (task_events task)
  pub narrow : task.width < 18446744073709551615
  pub root : total (task_events task) < task.gap * task.gap
  pub few : AreBeside task.level.now.number task.wholes.now.most
  pub skips : HaveNoHits (task_events task) (task_test task) task.level.now.runs task.skips

-- it is that of predicate i in the round
pub record IsTaskOf {K : Type 0} (round : Round K) (i : ℕ) (task : Task K) : Type 0 where
  pub sound : IsTask task
  pub test : (d : CompiledView) → task.test.now ≡ slice_index_or round.tests.now i d
  pub recorded : task.test.now.recorded ≡ round.computation.now
  pub width : task.width ≡ round.width
  pub gap : task.gap ≡ round.gap
  pub level : task.level.now ≡ round.level.now

-- this level is the one before that of the task
abbrev pub IsBeforeTask : {K : Type 0} → WholeLevel → Task K → Type 0
IsBeforeTask before task = IsNextOfWhole (task_events task) before task.level.now

-- what is known of the predicate after this level
abbrev pub StandsAt : {K : Type 0} → Task K → WholeLevel → Stage → Type 0
StandsAt task level stage = OneStands task.test.now task.width task.gap level stage
