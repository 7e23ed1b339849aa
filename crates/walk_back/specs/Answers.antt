-- What the walk's answers stand for.
use Rattle.std.specs.Prelude.{◌≡◌, ℕ, ◌*◌, ◌<◌, ◌≤◌, Bool, true, false, List, [], length, slice_index_or}
use Rattle.def_model.specs.Answers as model
use Rattle.def_model.specs.Answers.{IsDefinitelyAnswer, IsPossiblyAnswer}
use Rattle.def_model.specs.Cuts.{total}
use Rattle.def_model.specs.Events.{Computation}
use Rattle.walk_back.specs.declared.answers.Answers.{Answers}
use Rattle.walk_back.specs.declared.definitely_answer.DefinitelyAnswer.{DefinitelyAnswer}
use Rattle.walk_back.specs.declared.definitely_answer.DefinitelyAnswer.TheVariants as definitely
use Rattle.walk_back.specs.declared.possibly_answer.PossiblyAnswer.{PossiblyAnswer}
use Rattle.walk_back.specs.declared.possibly_answer.PossiblyAnswer.TheVariants as possibly

abbrev pub possibly_answer_view : PossiblyAnswer → model.PossiblyAnswer
possibly_answer_view (possibly.Yes cut) = model.PossiblyYes cut
possibly_answer_view possibly.No = model.PossiblyNo
possibly_answer_view (possibly.Unknown level) = model.PossiblyUnknown level

abbrev pub definitely_answer_view : DefinitelyAnswer → model.DefinitelyAnswer
definitely_answer_view (definitely.Yes level) = model.DefinitelyYes level
definitely_answer_view (definitely.No path) = model.DefinitelyNo path.items
definitely_answer_view (definitely.Unknown level) = model.DefinitelyUnknown level

-- the answer comes from a level above level 0, or from the way back over some event
abbrev pub IsPastFirst : Computation → model.DefinitelyAnswer → Type 0
IsPastFirst c (model.DefinitelyYes level) = 0 < level
IsPastFirst c (model.DefinitelyNo path) = 0 < total c
IsPastFirst c (model.DefinitelyUnknown level) = 0 < level

-- Both answers are right under the width, and so few levels were held at once: one at least, and two at least if
-- Definitely needed a level above level 0.
pub record AreAnswers (c : Computation) (test : List ℕ → Bool) (width most : ℕ) (answers : Answers) : Type 0 where
  pub possibly_right : IsPossiblyAnswer c test width (possibly_answer_view answers.possibly)
  pub definitely_right : IsDefinitelyAnswer c test width (definitely_answer_view answers.definitely)
  pub few : answers.held.most ≤ most
  pub some : 1 ≤ answers.held.most
  pub past_first : IsPastFirst c (definitely_answer_view answers.definitely) → 2 ≤ answers.held.most

-- the answer at the first level that has no avoiding cut, or more of them than the bound
abbrev pub IsEndAt : ℕ → ℕ → ℕ → model.DefinitelyAnswer → Type 0
IsEndAt count k width (model.DefinitelyYes level) = (level ≡ k) × (count ≡ 0)
IsEndAt count k width (model.DefinitelyNo path) = ⊥
IsEndAt count k width (model.DefinitelyUnknown level) = (level ≡ k) × (width < count)

-- the cut is the first of the list that passes the test
abbrev pub IsFirstIn : (List ℕ → Bool) → List (List ℕ) → List ℕ → Type 0
IsFirstIn test cuts cut =
    (i : ℕ) × (i < length cuts) × (slice_index_or cuts i [] ≡ cut) × (test cut ≡ true)
    × ((j : ℕ) → j < i → test (slice_index_or cuts j []) ≡ false)

-- the least number with a square that is no less
pub record IsLeastRoot (root n : ℕ) : Type 0 where
  pub enough : n ≤ root * root
  pub least : (r : ℕ) → r < root → r * r < n
