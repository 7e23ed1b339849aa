-- What holds of a round: all predicates at a whole level.
use Rattle.std.specs.Prelude.{◌≡◌, ◌+◌, ◌*◌, ◌<◌, ◌≤◌, List}
use Rattle.def_model.specs.Cuts.{total}
use Rattle.def_model.specs.Events.{Computation}
use Rattle.walk_marks.specs.SkippedRuns.{AreSkipped}
use Rattle.walk_runs.specs.Levels.{IsWholeLevel, WholeLevel}
use Rattle.walk.specs.Stages.{AllStand, AreBeside, AreFor}
use Rattle.walk.specs.declared.round.Round.{Round}
use Rattle.walk.specs.declared.stage.Stage.{Stage}

-- The predicates are compiled for the computation, and the level is one of its whole levels. These of its runs are
-- skipped, and so many whole levels were held at once.
pub record IsRound {K : Type 0} (round : Round K) : Type 0 where
  pub tests_for : AreFor round.computation.now round.tests.now
  pub whole : IsWholeLevel round.computation.now.events round.level.now
  pub within : round.level.now.number ≤ total round.computation.now.events
  pub narrow : round.width < 18446744073709551615
  pub root : total round.computation.now.events < round.gap * round.gap
  pub few : AreBeside round.level.now.number round.wholes.now.most
  pub skipped : AreSkipped round.tests.now round.level.now round.skipped.now
  pub some_threads : 0 < round.threads

-- the level is the one after this whole level
pub record IsNextOfWhole (c : Computation) (before level : WholeLevel) : Type 0 where
  pub whole : IsWholeLevel c before
  pub number : level.number ≡ before.number + 1

-- this level is the one before that of the round
abbrev pub IsBeforeRound : {K : Type 0} → WholeLevel → Round K → Type 0
IsBeforeRound before round = IsNextOfWhole round.computation.now.events before round.level.now

-- what is known of each predicate after this level
abbrev pub AllStandAt : {K : Type 0} → Round K → WholeLevel → List Stage → Type 0
AllStandAt round level stages = AllStand round.tests.now round.width round.gap level stages
