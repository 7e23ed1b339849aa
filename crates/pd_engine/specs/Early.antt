-- What is decided of predicates before the walk, and which answer is taken.
use Rattle.std.specs.Borrow.{Bor}
use Rattle.std.specs.Prelude.{◌≡◌, ◌⊎◌, ℕ, ◌<◌, ◌↔◌, IsTrue, true, List, ◌++◌, length, slice_index_or, MatchOption, Option, Some, None}
use Rattle.pd_engine.specs.declared.early.Early.{Early}
use Rattle.def_format.specs.Documents.{Document}
use Rattle.walk_back.specs.Answers.{definitely_answer_view, possibly_answer_view}
use Rattle.walk_back.specs.declared.answers.Answers.{Answers}
use Rattle.walk_back.specs.declared.definitely_answer.DefinitelyAnswer.{DefinitelyAnswer}
use Rattle.walk_back.specs.declared.possibly_answer.PossiblyAnswer.{PossiblyAnswer}
use Rattle.def_model.specs.Answers.{IsDefinitelyAnswer, IsExactPossibly, IsPossiblyAnswer}
use Rattle.def_model.specs.Observations.{Possibly}
use Rattle.def_wide.specs.Decided.{IsPossiblyDecided}
use Rattle.def_wide.specs.Heights.{IsFirstByHeight}
use Rattle.def_wide.specs.Tried.{IsFirstTried}
use Rattle.def_model.specs.Predicates.{Predicate, Recorded, test_of}
use Rattle.pd_pred.specs.Views.{predicate_view}
use Rattle.pd_pred.specs.declared.predicate.Pred.{Pred}
use Rattle.pd_spec.specs.declared.named.NamedPred.{NamedPred}
use Rattle.wide.specs.Found.{FindsFinal, FindsLate, IsByHeight}

-- Possibly's answer for a predicate of the document, if it is decided whatever the width and asked for
abbrev pub IsEarlyPossibly : Document → Recorded → Predicate → Option PossiblyAnswer → Type 0
IsEarlyPossibly document r predicate None = document.beyond_width ≡ true → ¬ IsPossiblyDecided r predicate
IsEarlyPossibly document r predicate (Some answer) =
    (document.beyond_width ≡ true) × IsPossiblyDecided r predicate
    × IsExactPossibly r.events (test_of r predicate) (possibly_answer_view answer)

-- Definitely's, if it is final whatever the levels are
abbrev pub IsEarlyDefinitely : Document → Recorded → Predicate → Option DefinitelyAnswer → Type 0
IsEarlyDefinitely document r predicate None =
    document.beyond_width ≡ true → FindsFinal r predicate document.width None
IsEarlyDefinitely document r predicate (Some answer) =
    (document.beyond_width ≡ true) × FindsFinal r predicate document.width (Some answer)

-- The level of a yes where the walk leaves Definitely unknown, if the document asks for that, no answer is final, and
-- there is one.
abbrev pub IsEarlyLate : Document → Recorded → Predicate → Option ℕ → Type 0
IsEarlyLate document r predicate late =
    document.beyond_width ≡ true → FindsFinal r predicate document.width None
    → FindsLate r predicate document.width late

-- The document asks for answers beyond its width, and the predicate isn't decided so, but by sums.
abbrev pub IsByHeightBeyond : Document → Recorded → Predicate → Type 0
IsByHeightBeyond document r predicate = (document.beyond_width ≡ true) × IsByHeight r predicate

-- the first satisfying cut by height, or none satisfies
abbrev pub IsLowestCut : Recorded → Predicate → Option (List ℕ) → Type 0
IsLowestCut r predicate found =
    MatchOption found (¬ Possibly r.events (test_of r predicate)) (IsFirstByHeight r.events (test_of r predicate))

-- the first tried cut, or no tried one satisfies
abbrev pub IsTriedCut : Recorded → Predicate → Option (List ℕ) → Type 0
IsTriedCut r predicate found =
    MatchOption found ((cut : List ℕ) → ¬ IsFirstTried r.events (test_of r predicate) cut)
    (IsFirstTried r.events (test_of r predicate))

-- an answer is left to the walk
abbrev pub IsLeft : Early → Type 0
IsLeft early = (early.possibly ≡ None) ⊎ (early.definitely ≡ None)

-- What is decided of a predicate; and if an answer is left to the walk, it stands at this place among those that are.
pub record IsEarly (document : Document) (r : Recorded) (left : List (Bor Pred)) (named : NamedPred) (early : Early) :
    Type 0 where
  pub possibly : IsEarlyPossibly document r (predicate_view named.pred) early.possibly
  pub definitely : IsEarlyDefinitely document r (predicate_view named.pred) early.definitely
  pub by_height : IsTrue early.by_height ↔ IsByHeightBeyond document r (predicate_view named.pred)
  pub late : IsEarlyLate document r (predicate_view named.pred) early.late
  pub there : IsLeft early → early.place < length left
  pub same : IsLeft early → (pred : Bor Pred) → (slice_index_or left early.place pred).now ≡ named.pred

-- predicates were put after others
abbrev pub GoesOn : (old new : List (Bor Pred)) → Type 0
GoesOn old new = (more : List (Bor Pred)) × (new ≡ old ++ more)

-- the same of each predicate
pub record AreEarly (document : Document) (r : Recorded) (asked : List NamedPred) (left : List (Bor Pred))
    (each : List Early) : Type 0 where
  pub one_each : length each ≡ length asked
  pub right : (i : ℕ) (named : NamedPred) (early : Early) → i < length asked
      → IsEarly document r left (slice_index_or asked i named) (slice_index_or each i early)

-- the answer that is decided, or else that of the walk at this place
abbrev pub IsPossiblyOf : Option PossiblyAnswer → ℕ → List Answers → PossiblyAnswer → Type 0
IsPossiblyOf (Some answer) place found taken = taken ≡ answer
IsPossiblyOf None place found taken = (answers : Answers) → taken ≡ (slice_index_or found place answers).possibly

abbrev pub IsDefinitelyOf : Option DefinitelyAnswer → ℕ → List Answers → DefinitelyAnswer → Type 0
IsDefinitelyOf (Some answer) place found taken = taken ≡ answer
IsDefinitelyOf None place found taken = (answers : Answers) → taken ≡ (slice_index_or found place answers).definitely

-- The answer is the one that is decided of the predicate, or that of the walk under the document's width.
pub data IsTaken (document : Document) (r : Recorded) (predicate : Predicate) (answer : PossiblyAnswer) : Type 0 where
  taken_early : document.beyond_width ≡ true → IsPossiblyDecided r predicate
      → IsExactPossibly r.events (test_of r predicate) (possibly_answer_view answer)
      → IsTaken document r predicate answer
  taken_walked : (document.beyond_width ≡ true → ¬ IsPossiblyDecided r predicate)
      → IsPossiblyAnswer r.events (test_of r predicate) document.width (possibly_answer_view answer)
      → IsTaken document r predicate answer

-- The answer for Definitely is the one that is final, or that of the walk under the document's width.
pub data IsTakenDefinitely (document : Document) (r : Recorded) (predicate : Predicate) (answer : DefinitelyAnswer) :
    Type 0 where
  final_taken : document.beyond_width ≡ true → FindsFinal r predicate document.width (Some answer)
      → IsTakenDefinitely document r predicate answer
  walked_taken : (document.beyond_width ≡ true → FindsFinal r predicate document.width None)
      → IsDefinitelyAnswer r.events (test_of r predicate) document.width (definitely_answer_view answer)
      → IsTakenDefinitely document r predicate answer
