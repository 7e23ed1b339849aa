-- The predicates' turns in a round.
use Rattle.std.specs.Prelude.{◌≡◌, ℕ, ◌<◌, IfOk, List, None, Option, Result, Some, length, slice_index_or}
use Rattle.walk_runs.specs.Levels.{WholeLevel}
use Rattle.walk_tables.specs.Views.{CompiledView}
use Rattle.walk.specs.Seen.{IsSeen}
use Rattle.walk.specs.Stages.{OneStands}
use Rattle.walk.specs.declared.round.Round.{Round}
use Rattle.walk.specs.declared.seen.Seen.{Seen}
use Rattle.walk.specs.declared.stage.Stage.{Stage}

-- this is known of predicate i after this level
abbrev pub IsKnown : {K : Type 0} → Round K → WholeLevel → ℕ → Stage → Type 0
IsKnown round level i stage = (test : CompiledView)
    → OneStands (slice_index_or round.tests.now i test) round.width round.gap level stage

-- this was seen of predicate i at the round's level, if that was known of it before
abbrev pub IsSeenIn : {K : Type 0} → Round K → ℕ → Stage → Seen → Type 0
IsSeenIn round i stage seen = (test : CompiledView)
    → IsSeen (slice_index_or round.tests.now i test) round.width round.gap round.level.now stage seen

-- the same, or nothing was seen of it, and what is known stands after this level, the one before
abbrev pub IsDrawn : {K : Type 0} → Round K → WholeLevel → ℕ → Stage → Option Seen → Type 0
IsDrawn round before i stage None = IsKnown round before i stage
IsDrawn round before i stage (Some seen) = IsSeenIn round i stage seen

-- the same of each predicate, unless an allocation was refused
pub record AreDrawn {K E : Type 0} (round : Round K) (before : WholeLevel) (stages : List Stage)
    (drawn : List (Result (Option Seen) E)) : Type 0 where
  pub one_each : length drawn ≡ length stages
  pub each : (i : ℕ) (d : Result (Option Seen) E) (stage : Stage) → i < length stages
      → IfOk (slice_index_or drawn i d) (IsDrawn round before i (slice_index_or stages i stage))
