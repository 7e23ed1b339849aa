-- What is known of a predicate when all levels below some number have been looked at. `test` says whether a cut
-- satisfies.
use Rattle.std.specs.Borrow.{Bor}
use Rattle.std.specs.Prelude.{◌≡◌, ℕ, All, ◌+◌, ◌*◌, ◌<◌, ◌≤◌, Bool, List, [], ◌∷◌, length, slice_index_or}
use Rattle.def_model.specs.Cuts.{total}
use Rattle.def_model.specs.Events.{Computation}
use Rattle.def_model.specs.Predicates.{Recorded, test_of}
use Rattle.def_model.specs.Walks.{IsNarrowBelow, NoneBelow}
use Rattle.walk_marks.specs.Marks.{IsMarking}
use Rattle.pd_pred.specs.Views.{predicate_view}
use Rattle.pd_pred.specs.declared.predicate.Pred.{Pred}
use Rattle.walk_marks.specs.SkippedRuns.{AreSkipped}
use Rattle.walk_runs.specs.Levels.{IsWholeLevel, WholeLevel}
use Rattle.walk_tables.specs.Views.{CompiledView}
use Rattle.walk_back.specs.Answers.{AreAnswers}
use Rattle.walk_back.specs.Splits.{IsSplitBelow}
use Rattle.walk_back.specs.declared.answers.Answers.{Answers}
use Rattle.walk_back.specs.CompiledTests.{events_of, meaning_of}
use Rattle.walk_back.specs.declared.possibly_answer.PossiblyAnswer.{PossiblyAnswer}
use Rattle.walk_back.specs.declared.possibly_answer.PossiblyAnswer.TheVariants.{No}
use Rattle.walk.specs.declared.stage.Stage.{Stage}
use Rattle.walk.specs.declared.stage.Stage.TheVariants.{Open, Marked, Answered}

-- no cut below level k satisfies, and no level there is too wide
pub record IsOpenBelow (c : Computation) (test : List ℕ → Bool) (width k : ℕ) : Type 0 where
  pub none : NoneBelow c test k
  pub narrow : IsNarrowBelow c width k

-- up to this level so many whole levels were held at once: two at most, and no fewer above level 0
pub record AreBeside (number most : ℕ) : Type 0 where
  pub some : 1 ≤ most
  pub few : most ≤ 2
  pub two : 0 < number → 2 ≤ most

-- what is known after this level
abbrev pub Stands : Computation → (List ℕ → Bool) → ℕ → ℕ → WholeLevel → Stage → Type 0
Stands c test width gap level Open = IsOpenBelow c test width (level.number + 1)
Stands c test width gap level (Marked split marks) =
    IsSplitBelow c test width gap (level.number + 1) split × IsMarking c test level marks
    × (split.held.walked.items ≡ [])
Stands c test width gap level (Answered answers) = AreAnswers c test width (2 * gap + 2) answers

-- how many levels its holder has counted, as far as it has one
abbrev pub counted : Stage → ℕ
counted Open = 0
counted (Marked split marks) = split.held.most
counted (Answered answers) = answers.held.most

-- what is known of one predicate after this level
abbrev pub OneStands : CompiledView → ℕ → ℕ → WholeLevel → Stage → Type 0
OneStands test width gap level stage = Stands (events_of test) (meaning_of test) width gap level stage

-- what is known of each predicate after this level
pub record AllStand (tests : List CompiledView) (width gap : ℕ) (level : WholeLevel)
    (stages : List Stage) : Type 0 where
  pub one_each : length stages ≡ length tests
  pub each : (i : ℕ) (test : CompiledView) (stage : Stage) → i < length tests
      → OneStands (slice_index_or tests i test) width gap level (slice_index_or stages i stage)

-- how far the walk has come: the number of the level that is held
abbrev pub number_held : List WholeLevel → ℕ
number_held [] = 0
number_held (level ∷ levels) = level.number

-- The walk up the whole levels has come to a level, which alone is held, and this is known of each predicate: which of
-- the level's runs it skips, and how far the answers have come.
pub record HasComeTo (c : Computation) (tests : List CompiledView) (width gap most : ℕ) (levels : List WholeLevel)
    (words : List ℕ) (stages : List Stage) : Type 0 where
  pub level : WholeLevel
  pub only : levels ≡ level ∷ []
  pub whole : IsWholeLevel c level
  pub within : level.number ≤ total c
  pub beside : AreBeside level.number most
  pub skipped : AreSkipped tests level words
  pub stand : AllStand tests width gap level stages

-- each was compiled for what was recorded
abbrev pub AreFor : Recorded → List CompiledView → Type 0
AreFor recorded tests = All (λ test. test.recorded ≡ recorded) tests

-- each is one of the predicates, compiled for what was recorded
pub record AreCompiled (recorded : Recorded) (preds : List (Bor Pred)) (tests : List CompiledView) : Type 0 where
  pub one_each : length tests ≡ length preds
  pub same : AreFor recorded tests
  pub each : (i : ℕ) (pred : Bor Pred) (test : CompiledView) → i < length preds
      → slice_index_or tests i test
      ≡ record { recorded = recorded; predicate = predicate_view (slice_index_or preds i pred).now }

-- The walk up the whole levels is over. Its last level alone is held, and if a predicate is open, no level comes after.
pub record HasEnded (recorded : Recorded) (preds : List (Bor Pred)) (width gap most : ℕ) (levels : List WholeLevel)
    (stages : List Stage) : Type 0 where
  pub level : WholeLevel
  pub only : levels ≡ level ∷ []
  pub whole : IsWholeLevel recorded.events level
  pub within : level.number ≤ total recorded.events
  pub beside : AreBeside level.number most
  pub one_each : length stages ≡ length preds
  pub each : (i : ℕ) (pred : Bor Pred) (stage : Stage) → i < length preds
      → Stands recorded.events (test_of recorded (predicate_view (slice_index_or preds i pred).now)) width gap level
      (slice_index_or stages i stage)
  pub last : (i : ℕ) (stage : Stage) → i < length stages → slice_index_or stages i stage ≡ Open
      → level.number ≡ total recorded.events

-- the answer for Possibly after the last level that is needed: no cut satisfies, if none so far does
abbrev pub possibly_known : Stage → PossiblyAnswer
possibly_known Open = No
possibly_known (Marked split marks) = split.possibly
possibly_known (Answered answers) = answers.possibly

-- both answers for each predicate
pub record AllAnswered (recorded : Recorded) (preds : List (Bor Pred)) (width most : ℕ)
    (answers : List Answers) : Type 0 where
  pub one_each : length answers ≡ length preds
  pub each : (i : ℕ) (pred : Bor Pred) (answer : Answers) → i < length preds
      → AreAnswers recorded.events (test_of recorded (predicate_view (slice_index_or preds i pred).now)) width most
      (slice_index_or answers i answer)
