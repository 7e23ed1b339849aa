-- What is asked of one predicate, and answered.
use Rattle.std.specs.Borrow.{Bor}
use Rattle.std.specs.Prelude.{ℕ, ◌+◌, ◌*◌, Bool, IfSome, List, Option}
use Rattle.walk_back.specs.Answers.{AreAnswers}
use Rattle.walk_back.specs.Splits.{IsSplitBelow}
use Rattle.walk_back.specs.declared.answers.Answers.{Answers}
use Rattle.walk_back.specs.declared.split.Split.{Split}
use Rattle.def_model.specs.Events.{Computation}
use Rattle.def_model.specs.Predicates.{test_of}
use Rattle.pd_pred.specs.Views.{predicate_view}
use Rattle.walk_tables.specs.Views.{CompiledView}
use Rattle.walk_back.specs.CompiledTests.{IsTestOf}
use Rattle.walk_back.specs.declared.question.Question.{Question}

-- the computation that is asked of
abbrev pub question_events : {T G : Type 0} → Question T G → Computation
question_events question = question.computation.now.events

-- whether a cut satisfies
abbrev pub question_test : {T G : Type 0} → Question T G → List ℕ → Bool
question_test question = test_of question.computation.now (predicate_view question.pred.now)

-- if the predicate is compiled, it is so for the computation
abbrev pub IsCompiledFor : {T G : Type 0} → Question T G → Option (Bor CompiledView) → Type 0
IsCompiledFor question compiled =
    IfSome compiled (IsTestOf question.computation.now (predicate_view question.pred.now))

-- Possibly is answered, and these levels below level k are kept
abbrev pub IsSplitTo : {T G : Type 0} → Question T G → ℕ → Split → Type 0
IsSplitTo question k split =
    IsSplitBelow (question_events question) (question_test question) question.width question.gap k split

-- both answers are right, and so few levels were held at once
abbrev pub AreAnswersTo : {T G : Type 0} → Question T G → Answers → Type 0
AreAnswersTo question answers =
    AreAnswers (question_events question) (question_test question) question.width (2 * question.gap + 2) answers
