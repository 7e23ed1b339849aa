-- The answers that are found of predicates that are decided whatever the width.
use Rattle.std.specs.Global.{Global}
use Rattle.std.specs.Prelude.{⊤, ◌≡◌, ℕ, ◌⊎◌, ◌↔◌, IsTrue, List, Option, Some, None, Vec}
use Rattle.walk_back.specs.Answers.{definitely_answer_view, possibly_answer_view}
use Rattle.walk_back.specs.declared.definitely_answer.DefinitelyAnswer.{DefinitelyAnswer}
use Rattle.walk_back.specs.declared.possibly_answer.PossiblyAnswer.{PossiblyAnswer}
use Rattle.def_model.specs.Answers.{DefinitelyNo, IsExactDefinitely, IsExactPossibly}
use Rattle.def_model.specs.Events.{Computation}
use Rattle.def_model.specs.Predicates.{Predicate, Recorded, test_of}
use Rattle.def_wide.specs.DeadEnds.{IsFoundBack}
use Rattle.def_wide.specs.Decided.{IsDefinitelyDecided, IsPossiblyDecided}
use Rattle.def_wide.specs.Gates.{IsLateLevel}
use Rattle.def_wide.specs.Sums.{IsDecidedBySums}
use Rattle.wide_terms.specs.Passages.{IsPathOfAll}
use Rattle.wide.specs.declared.back.Definite.{Definite}
use Rattle.wide.specs.declared.possibly.Possible.{Possible}

-- Possibly's answer, if it is decided
abbrev pub FindsPossibly : Recorded → Predicate → Option PossiblyAnswer → Type 0
FindsPossibly r predicate None = ¬ IsPossiblyDecided r predicate
FindsPossibly r predicate (Some answer) =
    IsPossiblyDecided r predicate × IsExactPossibly r.events (test_of r predicate) (possibly_answer_view answer)

-- Possibly isn't decided so, but sums decide the predicate: then the first satisfying cut by height is the answer,
-- where the levels under a width leave it unknown.
abbrev pub IsByHeight : Recorded → Predicate → Type 0
IsByHeight r predicate = (¬ IsPossiblyDecided r predicate) × IsDecidedBySums r predicate

-- both
pub record IsPossible (r : Recorded) (predicate : Predicate) (possible : Possible) : Type 0 where
  pub finds : FindsPossibly r predicate possible.answer
  pub by_height : IsTrue possible.by_height ↔ IsByHeight r predicate

-- Definitely's answer, if it is decided
abbrev pub FindsDefinitely : Recorded → Predicate → Option DefinitelyAnswer → Type 0
FindsDefinitely r predicate None = ¬ IsDefinitelyDecided r predicate
FindsDefinitely r predicate (Some answer) =
    IsDefinitelyDecided r predicate × IsExactDefinitely r.events (test_of r predicate) (definitely_answer_view answer)

-- Definitely isn't decided, but the search back finds the path of an avoiding observation: the answer is no with it.
abbrev pub IsBackAnswer : Recorded → Predicate → ℕ → DefinitelyAnswer → Type 0
IsBackAnswer r predicate w answer =
    (¬ IsDefinitelyDecided r predicate)
    × ((path : List ℕ) × IsFoundBack r predicate w path × (definitely_answer_view answer ≡ DefinitelyNo path))

-- Definitely's answer, if it is final whatever the levels are: it is decided, or the search back finds a path.
abbrev pub FindsFinal : Recorded → Predicate → ℕ → Option DefinitelyAnswer → Type 0
FindsFinal r predicate w None =
    (¬ IsDefinitelyDecided r predicate) × ((path : List ℕ) → ¬ IsFoundBack r predicate w path)
FindsFinal r predicate w (Some answer) =
    (IsDefinitelyDecided r predicate × IsExactDefinitely r.events (test_of r predicate) (definitely_answer_view answer))
    ⊎ IsBackAnswer r predicate w answer

-- The level of a yes where the levels under a width leave Definitely unknown, if there is one.
abbrev pub FindsLate : Recorded → Predicate → ℕ → Option ℕ → Type 0
FindsLate r predicate w None = (level : ℕ) → ¬ IsLateLevel r predicate w level
FindsLate r predicate w (Some level) = IsLateLevel r predicate w level

-- both: that level counts only where no answer is final
pub record IsDefinite (r : Recorded) (predicate : Predicate) (w : ℕ) (definite : Definite) : Type 0 where
  pub finds : FindsFinal r predicate w definite.answer
  pub late : FindsFinal r predicate w None → FindsLate r predicate w definite.late

-- the path printed where no cut satisfies, if it is known
abbrev pub IsPathIfKnown : Computation → Option (Vec ℕ Global) → Type 0
IsPathIfKnown c None = ⊤
IsPathIfKnown c (Some path) = IsPathOfAll c path.items
