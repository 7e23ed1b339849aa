-- The answer of Possibly, if it isn't left unknown, or a cut is found beyond the width; and that of Definitely, if it
-- isn't left unknown, or there is a level for a yes.
use Rattle.std.proofs.Common.{◌≡◌, inl, inr, ℕ, List, refl, sym, ◌∙◌, ◌↔◌}
use Rattle.std.proofs.lemmas.Bool.{false≢true}
use Rattle.std.specs.Prelude.{Bool, true, false, IsTrue, None, Some}
use Rattle.def_format.specs.Documents.{Document}
use Rattle.def_judgement.specs.Judgements.{AnswersDefinitely, AnswersPossibly, NothingTried, definitely_back, definitely_beyond, definitely_late, definitely_within, possibly_beyond, possibly_by_height, possibly_tried, possibly_within}
use Rattle.def_model.specs.Answers.{DefinitelyNo, DefinitelyUnknown, PossiblyUnknown}
use Rattle.def_model.specs.Observations.{Possibly}
use Rattle.def_model.specs.Predicates.{Predicate, Recorded, test_of}
use Rattle.def_wide.specs.Decided.{IsPossiblyDecided}
use Rattle.def_wide.specs.Gates.{IsLateLevel}
use Rattle.def_wide.specs.Sums.{IsDecidedBySums}
use Rattle.pd_engine.specs.Early.{IsByHeightBeyond, IsLowestCut, IsTaken, IsTakenDefinitely, IsTriedCut, final_taken, taken_early, taken_walked, walked_taken}
use Rattle.wide.specs.Found.{FindsFinal}
use Rattle.walk_back.specs.Answers.{definitely_answer_view, possibly_answer_view}
use Rattle.walk_back.specs.declared.definitely_answer.DefinitelyAnswer.{DefinitelyAnswer}
use Rattle.walk_back.specs.declared.definitely_answer.DefinitelyAnswer.TheVariants as definitely
use Rattle.walk_back.specs.declared.possibly_answer.PossiblyAnswer.{PossiblyAnswer}
use Rattle.walk_back.specs.declared.possibly_answer.PossiblyAnswer.TheVariants.{Yes, Unknown}

module _ (document : Document) (r : Recorded) (predicate : Predicate) where
  -- what is taken is the answer, unless it is unknown and a cut is found beyond the width
  kept : (taken : PossiblyAnswer) → IsTaken document r predicate taken
      → (document.beyond_width ≡ true → (¬ IsPossiblyDecided r predicate)
      → NothingTried r predicate (possibly_answer_view taken))
      → AnswersPossibly document r predicate (possibly_answer_view taken)
  kept taken (taken_early beyond decided exact) nothing = possibly_beyond beyond decided exact
  kept taken (taken_walked undecided right) nothing =
      possibly_within undecided (λ beyond. nothing beyond (undecided beyond)) right

  -- if nothing is asked beyond it
  pub kept_unasked : (taken : PossiblyAnswer) → document.beyond_width ≡ false → IsTaken document r predicate taken
      → AnswersPossibly document r predicate (possibly_answer_view taken)
  kept_unasked taken unasked is = kept taken is (λ beyond. absurd (false≢true (sym unasked ∙ beyond)))

  -- if it is known
  pub kept_if_known : (taken : PossiblyAnswer)
      → ((level : ℕ) → ¬ (possibly_answer_view taken ≡ PossiblyUnknown level)) → IsTaken document r predicate taken
      → AnswersPossibly document r predicate (possibly_answer_view taken)
  kept_if_known taken known is = kept taken is (λ beyond undecided. record {
    not_by_sums = λ level said. absurd (known level said);
    none = λ level said. absurd (known level said);
  })

  -- sums don't decide the predicate, if it isn't decided and isn't answered by height
  not_by_sums : document.beyond_width ≡ true → (IsTrue false ↔ IsByHeightBeyond document r predicate)
      → (¬ IsPossiblyDecided r predicate) → ¬ IsDecidedBySums r predicate
  not_by_sums beyond tells undecided sums = false≢true (tells.1 (beyond, (undecided, sums)))

  -- if no cut is found
  pub kept_if_none : (by_height : Bool) (taken : PossiblyAnswer) → document.beyond_width ≡ true
      → (IsTrue by_height ↔ IsByHeightBeyond document r predicate) → IsTaken document r predicate taken
      → (by_height ≡ true → IsLowestCut r predicate None) → (by_height ≡ false → IsTriedCut r predicate None)
      → AnswersPossibly document r predicate (possibly_answer_view taken)
  kept_if_none true taken beyond tells is lowest tried = absurd (never_none (tells.0 refl) (lowest refl))
    where
      -- some cut satisfies then
      never_none : IsByHeightBeyond document r predicate → ¬ (¬ Possibly r.events (test_of r predicate))
      never_none by none = by.1.0 (inr (by.1.1, none))
  kept_if_none false taken beyond tells is lowest tried =
      kept taken is (λ asked undecided. record {
        not_by_sums = λ level said. not_by_sums beyond tells undecided;
        none = λ level said. tried refl;
      })

  -- and if one is
  pub late_cut_answers : (by_height : Bool) (level : ℕ) (cut : List ℕ) → document.beyond_width ≡ true
      → (IsTrue by_height ↔ IsByHeightBeyond document r predicate) → IsTaken document r predicate (Unknown level)
      → (by_height ≡ true → IsLowestCut r predicate (Some cut))
      → (by_height ≡ false → IsTriedCut r predicate (Some cut))
      → AnswersPossibly document r predicate (possibly_answer_view (Yes cut))
  late_cut_answers by_height level cut beyond tells (taken_early asked decided exact) lowest tried = absurd exact
  late_cut_answers true level cut beyond tells (taken_walked undecided right) lowest tried =
      let by : IsByHeightBeyond document r predicate = tells.0 refl in
      possibly_by_height by.0 by.1.0 by.1.1 level right cut refl (lowest refl)
  late_cut_answers false level cut beyond tells (taken_walked undecided right) lowest tried =
      possibly_tried beyond (undecided beyond) (not_by_sums beyond tells (undecided beyond)) level right cut refl
      (tried refl)

  -- ---- Definitely

  -- What is taken is the answer, unless it is unknown and there is a level for a yes.
  pub stays : (taken : DefinitelyAnswer) → IsTakenDefinitely document r predicate taken
      → (document.beyond_width ≡ true → (unknown : ℕ) → definitely_answer_view taken ≡ DefinitelyUnknown unknown
      → (level : ℕ) → ¬ IsLateLevel r predicate document.width level)
      → AnswersDefinitely document r predicate (definitely_answer_view taken)
  stays taken (final_taken beyond (inl (decided, exact))) none = definitely_beyond beyond decided exact
  stays taken (final_taken beyond (inr (undecided, back))) none =
      definitely_back beyond undecided back.0 back.1 back.2
  stays taken (walked_taken final right) none =
      definitely_within (λ beyond. (final beyond).0)
      (λ beyond. record { no_path = (final beyond).1; no_level = none beyond }) right

  -- an answer that isn't unknown stays
  pub stays_if_known : (taken : DefinitelyAnswer)
      → ((unknown : ℕ) → ¬ (definitely_answer_view taken ≡ DefinitelyUnknown unknown))
      → IsTakenDefinitely document r predicate taken
      → AnswersDefinitely document r predicate (definitely_answer_view taken)
  stays_if_known taken known is = stays taken is (λ beyond unknown said. absurd (known unknown said))

  -- and so does any where nothing is asked beyond the width
  pub stays_unasked : (taken : DefinitelyAnswer) → document.beyond_width ≡ false
      → IsTakenDefinitely document r predicate taken
      → AnswersDefinitely document r predicate (definitely_answer_view taken)
  stays_unasked taken unasked is = stays taken is (λ beyond. absurd (false≢true (sym unasked ∙ beyond)))

  -- yes where the walk leaves it unknown
  pub late_answers : (unknown level : ℕ) → document.beyond_width ≡ true
      → IsTakenDefinitely document r predicate (definitely.Unknown unknown)
      → IsLateLevel r predicate document.width level
      → AnswersDefinitely document r predicate (definitely_answer_view (definitely.Yes level))
  late_answers unknown level beyond (final_taken asked (inl (decided, exact))) late = absurd exact
  late_answers unknown level beyond (final_taken asked (inr (undecided, back))) late =
      absurd (no_path unknown back.0 back.2)
    where
      no_path : (k : ℕ) (path : List ℕ) → ¬ (DefinitelyUnknown k ≡ DefinitelyNo path)
      no_path k path e = cc
  late_answers unknown level beyond (walked_taken final right) late =
      definitely_late beyond (final beyond).0 (final beyond).1 unknown right level late refl

  -- where the walk leaves it unknown, no answer is final
  pub none_final : (unknown : ℕ) → document.beyond_width ≡ true
      → IsTakenDefinitely document r predicate (definitely.Unknown unknown)
      → FindsFinal r predicate document.width None
  none_final unknown beyond (final_taken asked (inl (decided, exact))) = absurd exact
  none_final unknown beyond (final_taken asked (inr (undecided, back))) =
      absurd (no_path unknown back.0 back.2)
    where
      no_path : (k : ℕ) (path : List ℕ) → ¬ (DefinitelyUnknown k ≡ DefinitelyNo path)
      no_path k path e = cc
  none_final unknown beyond (walked_taken final right) = final beyond

  -- an answer stays where there is no level for a yes
  pub late_none : (taken : DefinitelyAnswer) → IsTakenDefinitely document r predicate taken
      → ((level : ℕ) → ¬ IsLateLevel r predicate document.width level)
      → AnswersDefinitely document r predicate (definitely_answer_view taken)
  late_none taken is none = stays taken is (λ beyond unknown said. none)
