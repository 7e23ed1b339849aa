-- The answer that is taken for a predicate is its answer: the one that is decided before the walk, or that of the walk.
use Rattle.std.proofs.Common.{◌≡◌, ℕ, ◌+◌, Bor, ◌<◌, ◌≤◌, ◌⊎◌, List, [], ◌∷◌, ◌++◌, length, length-append, get_or, inl, inr, sym, ap, ◌∙◌, subst, refl, Option, Some, None, arith}
use Rattle.std.proofs.lemmas.Bool.{cases_lt}
use Rattle.std.proofs.lemmas.List.{get_or_append_left, get_or_default}
use Rattle.std.proofs.Math.Seq.{get_or-append_seam}
use Rattle.pd_engine.specs.Early.{AreEarly, GoesOn, IsDefinitelyOf, IsEarly, IsEarlyDefinitely, IsEarlyPossibly, IsLeft, IsPossiblyOf, IsTaken, IsTakenDefinitely, final_taken, taken_early, taken_walked, walked_taken}
use Rattle.pd_engine.specs.declared.early.Early.{Early}
use Rattle.def_format.specs.Documents.{Document}
use Rattle.walk_back.specs.Answers.{AreAnswers}
use Rattle.walk_back.specs.declared.answers.Answers.{Answers}
use Rattle.walk_back.specs.declared.definitely_answer.DefinitelyAnswer.{DefinitelyAnswer}
use Rattle.walk_back.specs.declared.possibly_answer.PossiblyAnswer.{PossiblyAnswer}
use Rattle.def_model.specs.Predicates.{Recorded, test_of}
use Rattle.pd_pred.specs.Views.{predicate_view}
use Rattle.pd_pred.specs.declared.predicate.Pred.{Pred}
use Rattle.pd_spec.specs.declared.named.NamedPred.{NamedPred}
use Rattle.walk.specs.Stages.{AllAnswered}

-- an element of a list that isn't empty
element : {A : Type 0} (xs : List A) → 0 < length xs → A
element [] some = absurd (omega arith)
element (x ∷ xs) some = x

-- ---- what is decided

-- what is decided of a predicate stays so, if others are put after those that are left
pub still_early : (document : Document) (r : Recorded) (old new : List (Bor Pred)) (named : NamedPred) (early : Early)
    → GoesOn old new → IsEarly document r old named early → IsEarly document r new named early
still_early document r old new named early (more, is) e = record {
  possibly = e.possibly;
  definitely = e.definitely;
  by_height = e.by_height;
  late = e.late;
  there = λ left. let lt : early.place < length old = e.there left in
      let l : length new ≡ length old + length more = ap length is ∙ length-append old more in omega arith;
  same = λ left pred. ap (λ (b : Bor Pred). b.now) (ap (λ (xs : List (Bor Pred)). get_or xs early.place pred) is
      ∙ get_or_append_left old more pred early.place (e.there left)) ∙ e.same left pred;
}

-- what is decided of one predicate more
pub early_pushed : (document : Document) (r : Recorded) (asked : List NamedPred) (old new : List (Bor Pred))
    (each pushed : List Early) (i : ℕ) (next : NamedPred) (one : Early) → i < length asked → length each ≡ i
    → ((j : ℕ) (named : NamedPred) (early : Early) → j < i
    → IsEarly document r old (get_or asked j named) (get_or each j early))
    → GoesOn old new → next ≡ get_or asked i next → IsEarly document r new next one → pushed ≡ each ++ one ∷ []
    → (j : ℕ) (named : NamedPred) (early : Early) → j < i + 1
    → IsEarly document r new (get_or asked j named) (get_or pushed j early)
early_pushed document r asked old new each pushed i next one there count known goes at is put j named early lt =
    subst (λ (xs : List Early). IsEarly document r new (get_or asked j named) (get_or xs j early)) (sym put)
    (go (cases_lt j i))
  where
    go : (j < i) ⊎ (i ≤ j)
        → IsEarly document r new (get_or asked j named) (get_or (each ++ one ∷ []) j early)
    go (inl earlier) =
        subst (IsEarly document r new (get_or asked j named))
        (sym (get_or_append_left each (one ∷ []) early j (omega arith)))
        (still_early document r old new (get_or asked j named) (get_or each j early) goes
        (known j named early earlier))
    go (inr last) =
        let same : i ≡ j = omega arith in
        let named_is : next ≡ get_or asked j named =
        at ∙ (get_or_default asked i next named there ∙ ap (λ k. get_or asked k named) same) in
        let one_is : one ≡ get_or (each ++ one ∷ []) j early =
        sym (get_or-append_seam each one [] early) ∙ ap (λ k. get_or (each ++ one ∷ []) k early) (count ∙ same) in
        subst (λ (n : NamedPred). IsEarly document r new n (get_or (each ++ one ∷ []) j early)) named_is
        (subst (IsEarly document r new next) one_is is)

-- what is decided of the predicate at a place
pub early_at : (document : Document) (r : Recorded) (asked : List NamedPred) (left : List (Bor Pred))
    (each : List Early) (i : ℕ) (named : NamedPred) (early : Early) → AreEarly document r asked left each
    → i < length asked → named ≡ get_or asked i named → early ≡ get_or each i early
    → IsEarly document r left named early
early_at document r asked left each i named early are lt at is =
    subst (λ (n : NamedPred). IsEarly document r left n early) (sym at)
    (subst (λ (e : Early). IsEarly document r left (get_or asked i named) e) (sym is) (are.right i named early lt))

-- its place among the walk's answers, if one is left
pub place_there : (document : Document) (r : Recorded) (left : List (Bor Pred)) (found : List Answers) (width : ℕ)
    (named : NamedPred) (early : Early) → (most : ℕ) × AllAnswered r left width most found
    → IsEarly document r left named early → IsLeft early → early.place < length found
place_there document r left found width named early (most, walked) is left_open =
    let lt : early.place < length left = is.there left_open in omega (arith, walked.one_each)

-- ---- what is taken

module _ (document : Document) (r : Recorded) (left : List (Bor Pred)) (found : List Answers) (most : ℕ)
    (walked : AllAnswered r left document.width most found) (named : NamedPred) where
  -- the predicate stands at a place among those that are left to the walk
  IsPlaced : ℕ → Type 0
  IsPlaced place = (place < length left) × ((pred : Bor Pred) → (get_or left place pred).now ≡ named.pred)

  -- the walk's answers for it
  walked_at : (place : ℕ) → IsPlaced place → (answers : Answers)
      → AreAnswers r.events (test_of r (predicate_view named.pred)) document.width most (get_or found place answers)
  unfolding IsPlaced
  walked_at place (lt, same) answers =
      let pred : Bor Pred = element left (omega arith) in
      subst (λ (p : Pred). AreAnswers r.events (test_of r (predicate_view p)) document.width most
      (get_or found place answers)) (same pred) (walked.each place pred answers lt)

  some_answers : (place : ℕ) → IsPlaced place → Answers
  unfolding IsPlaced
  some_answers place (lt, same) = element found (omega (arith, walked.one_each))

  possibly_by : (known : Option PossiblyAnswer) (place : ℕ) (taken : PossiblyAnswer)
      → IsEarlyPossibly document r (predicate_view named.pred) known → (known ≡ None → IsPlaced place)
      → IsPossiblyOf known place found taken
      → IsTaken document r (predicate_view named.pred) taken
  possibly_by (Some answer) place taken early placed of =
      subst (IsTaken document r (predicate_view named.pred)) (sym of) (taken_early early.0 early.1 early.2)
  possibly_by None place taken early placed of =
      let answers : Answers = some_answers place (placed refl) in
      subst (IsTaken document r (predicate_view named.pred)) (sym (of answers))
      (taken_walked early (walked_at place (placed refl) answers).possibly_right)

  definitely_by : (known : Option DefinitelyAnswer) (place : ℕ) (taken : DefinitelyAnswer)
      → IsEarlyDefinitely document r (predicate_view named.pred) known → (known ≡ None → IsPlaced place)
      → IsDefinitelyOf known place found taken
      → IsTakenDefinitely document r (predicate_view named.pred) taken
  definitely_by (Some answer) place taken early placed of =
      subst (IsTakenDefinitely document r (predicate_view named.pred)) (sym of) (final_taken early.0 early.1)
  definitely_by None place taken early placed of =
      let answers : Answers = some_answers place (placed refl) in
      subst (IsTakenDefinitely document r (predicate_view named.pred)) (sym (of answers))
      (walked_taken early (walked_at place (placed refl) answers).definitely_right)

  pub possibly_taken : (early : Early) (taken : PossiblyAnswer) → IsEarly document r left named early
      → IsPossiblyOf early.possibly early.place found taken
      → IsTaken document r (predicate_view named.pred) taken
  unfolding IsPlaced
  possibly_taken early taken is of =
      possibly_by early.possibly early.place taken is.possibly (λ none. (is.there (inl none), is.same (inl none))) of

  pub definitely_taken : (early : Early) (taken : DefinitelyAnswer) → IsEarly document r left named early
      → IsDefinitelyOf early.definitely early.place found taken
      → IsTakenDefinitely document r (predicate_view named.pred) taken
  unfolding IsPlaced
  definitely_taken early taken is of =
      definitely_by early.definitely early.place taken is.definitely
      (λ none. (is.there (inr none), is.same (inr none))) of
