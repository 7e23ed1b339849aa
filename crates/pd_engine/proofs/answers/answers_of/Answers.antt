-- Each answer is the one that is decided of its predicate, or that of the walk.
use Rattle.std.proofs.Common.{◌≡◌, ◌+◌, ◌<◌, ℕ, Bor, List, [], ◌∷◌, ◌++◌, length, map, take, inl, inr, sym, ap, ◌∙◌, subst, arith}
use Rattle.std.specs.List.{AllZip}
use Rattle.std.proofs.lemmas.List.{take_all, take_more, map-append}
use Rattle.pd_report.specs.Views as views
use Rattle.def_format.specs.Documents.{NamedPredicate}
use Rattle.def_judgement.specs.Judgements.{AnswersDefinitely, AnswersPossibly, IsAnswered}
use Rattle.walk_back.specs.declared.answers.Answers.{Answers}
use Rattle.def_model.specs.Predicates.{Recorded}
use Rattle.pd_pred.specs.Views.{predicate_view}
use Rattle.pd_pred.specs.declared.predicate.Pred.{Pred}
use Rattle.pd_spec.specs.Named.{named_view}
use Rattle.pd_spec.specs.Views.{document_view}
use Rattle.pd_spec.specs.declared.named.NamedPred.{NamedPred}
use Rattle.walk.specs.Stages.{AllAnswered}
use Rattle.walk_back.specs.Answers.{definitely_answer_view, possibly_answer_view}
use Rattle.walk_back.specs.declared.definitely_answer.DefinitelyAnswer.{DefinitelyAnswer}
use Rattle.walk_back.specs.declared.possibly_answer.PossiblyAnswer.{PossiblyAnswer}
use Rattle.pd_engine.specs.Early.{IsDefinitelyOf, IsPossiblyOf}
use Rattle.pd_engine.proofs.WalkAnswers.{definitely_taken, early_at, place_there, possibly_taken}
use Rattle.pd_engine.proofs.Zips.{all_zip_push}
use Rattle.pd_engine.proofs.answers.answers_of.Goals as goal

-- the walk's answers for the predicates that are left to it, under the document's width
under_width : (r : Recorded) (left other : List (Bor Pred)) (width given : ℕ) (found : List Answers) → other ≡ left
    → given ≡ width → (most : ℕ) × AllAnswered r other given most found
    → (most : ℕ) × AllAnswered r left width most found
under_width r left other width given found same is (most, walked) = (
  most,
  subst (λ (w : ℕ). AllAnswered r left w most found) is
      (subst (λ (l : List (Bor Pred)). AllAnswered r l given most found) same walked),
)

pub possibly-possibly-requires : goal.possibly-possibly-requires
possibly-possibly-requires g c none =
    let document = document_view c.args.spec.now in
    let r = c.args.computation.now in
    let left = c.in_ok-early.early.left.items in
    let named = c.index-asked-i.result in
    let known = c.index-known.result.now in
    let is = early_at document r c.predicates-asked.result.now left c.in_ok-early.early.each.items c.loop-i.i named
    known c.in_ok-early.ensures c.loop-i-test.true c.index-asked-i.is c.index-known.ensures in
    let walked = under_width r left c.deref.result.now document.width c.width.result c.in_ok-found.found.items
    c.deref.ensures.value c.width.ensures c.in_ok-found.ensures.right in
    subst (λ (xs : List Answers). known.place < length xs) (sym c.deref-in-loop-i.ensures.value)
    (place_there document r left c.in_ok-found.found.items document.width named known walked is (inl none))

pub definitely-definitely-requires : goal.definitely-definitely-requires
definitely-definitely-requires g c none =
    let document = document_view c.args.spec.now in
    let r = c.args.computation.now in
    let left = c.in_ok-early.early.left.items in
    let named = c.index-asked-i.result in
    let known = c.index-known.result.now in
    let is = early_at document r c.predicates-asked.result.now left c.in_ok-early.early.each.items c.loop-i.i named
    known c.in_ok-early.ensures c.loop-i-test.true c.index-asked-i.is c.index-known.ensures in
    let walked = under_width r left c.deref.result.now document.width c.width.result c.in_ok-found.found.items
    c.deref.ensures.value c.width.ensures c.in_ok-found.ensures.right in
    subst (λ (xs : List Answers). known.place < length xs) (sym c.deref-in-loop-i-2.ensures.value)
    (place_there document r left c.in_ok-found.found.items document.width named known walked is (inr none))

pub late_possibly-requires-clause-by_height : goal.late_possibly-requires-clause-by_height
late_possibly-requires-clause-by_height g c =
    let document = document_view c.args.spec.now in
    let r = c.args.computation.now in
    let left = c.in_ok-early.early.left.items in
    let named = c.index-asked-i.result in
    let known = c.index-known.result.now in
    let is = early_at document r c.predicates-asked.result.now left c.in_ok-early.early.each.items c.loop-i.i named
    known c.in_ok-early.ensures c.loop-i-test.true c.index-asked-i.is c.index-known.ensures in
    is.by_height

pub late_possibly-requires-clause-taken : goal.late_possibly-requires-clause-taken
late_possibly-requires-clause-taken g c =
    let document = document_view c.args.spec.now in
    let r = c.args.computation.now in
    let left = c.in_ok-early.early.left.items in
    let named = c.index-asked-i.result in
    let known = c.index-known.result.now in
    let is = early_at document r c.predicates-asked.result.now left c.in_ok-early.early.each.items c.loop-i.i named
    known c.in_ok-early.ensures c.loop-i-test.true c.index-asked-i.is c.index-known.ensures in
    let walked = under_width r left c.deref.result.now document.width c.width.result c.in_ok-found.found.items
    c.deref.ensures.value c.width.ensures c.in_ok-found.ensures.right in
    possibly_taken document r left c.in_ok-found.found.items walked.0 walked.1 named known
    c.possibly-possibly.result.now is
    (subst (λ (xs : List Answers). IsPossiblyOf known.possibly known.place xs c.possibly-possibly.result.now)
    c.deref-in-loop-i.ensures.value c.possibly-possibly.ensures)

pub answer-requires-clause-possibly : goal.answer-requires-clause-possibly
answer-requires-clause-possibly g c =
    subst (λ (answer : PossiblyAnswer). AnswersPossibly (document_view c.args.spec.now) c.args.computation.now
    (predicate_view c.index-asked-i.result.pred) (possibly_answer_view answer)) (sym c.latest-possibly.ensures)
    c.in_ok-late.ensures

pub late_definitely-passed-requires-clause-late : goal.late_definitely-passed-requires-clause-late
late_definitely-passed-requires-clause-late g c =
    let document = document_view c.args.spec.now in
    let r = c.args.computation.now in
    let left = c.in_ok-early.early.left.items in
    let named = c.index-asked-i.result in
    let known = c.index-known.result.now in
    let is = early_at document r c.predicates-asked.result.now left c.in_ok-early.early.each.items c.loop-i.i named
    known c.in_ok-early.ensures c.loop-i-test.true c.index-asked-i.is c.index-known.ensures in
    is.late

pub late_definitely-passed-requires-clause-taken : goal.late_definitely-passed-requires-clause-taken
late_definitely-passed-requires-clause-taken g c =
    let document = document_view c.args.spec.now in
    let r = c.args.computation.now in
    let left = c.in_ok-early.early.left.items in
    let named = c.index-asked-i.result in
    let known = c.index-known.result.now in
    let is = early_at document r c.predicates-asked.result.now left c.in_ok-early.early.each.items c.loop-i.i named
    known c.in_ok-early.ensures c.loop-i-test.true c.index-asked-i.is c.index-known.ensures in
    let walked = under_width r left c.deref.result.now document.width c.width.result c.in_ok-found.found.items
    c.deref.ensures.value c.width.ensures c.in_ok-found.ensures.right in
    definitely_taken document r left c.in_ok-found.found.items walked.0 walked.1 named known
    c.definitely-definitely.result.now is
    (subst (λ (xs : List Answers). IsDefinitelyOf known.definitely known.place xs c.definitely-definitely.result.now)
    c.deref-in-loop-i-2.ensures.value c.definitely-definitely.ensures)

pub answer-requires-clause-definitely : goal.answer-requires-clause-definitely
answer-requires-clause-definitely g c =
    subst (λ (answer : DefinitelyAnswer). AnswersDefinitely (document_view c.args.spec.now) c.args.computation.now
    (predicate_view c.index-asked-i.result.pred) (definitely_answer_view answer))
    (sym c.latest-definitely.ensures) c.late_definitely-passed.ensures

pub loop-i-preserved : goal.loop-i-preserved
loop-i-preserved g c =
    let asked : List NamedPred = c.predicates-asked.result.now in
    let next : NamedPred = c.index-asked-i.result in
    let more : take (c.loop-i.i + 1) asked ≡ take c.loop-i.i asked ++ next ∷ [] =
    take_more asked c.loop-i.i next c.loop-i-test.true
    ∙ ap (λ (p : NamedPred). take c.loop-i.i asked ++ p ∷ []) (sym c.index-asked-i.is) in
    let named : map named_view (take (c.loop-i.i + 1) asked)
    ≡ map named_view (take c.loop-i.i asked) ++ named_view next ∷ [] =
    ap (map named_view) more ∙ map-append named_view (take c.loop-i.i asked) (next ∷ []) in
    rw (
      named,
      c.in_ok-push.ensures.items,
      map-append views.answer_view c.loop-i.answers.items (c.in_ok-answer.field-0 ∷ []),
    )
    (all_zip_push (IsAnswered (document_view c.args.spec.now) c.args.computation.now)
    (map named_view (take c.loop-i.i asked)) (map views.answer_view c.loop-i.answers.items) (named_view next)
    (views.answer_view c.in_ok-answer.field-0) c.loop-i.invariant c.in_ok-answer.ensures)

pub returns : goal.returns
returns g c =
    let asked : List NamedPred = c.predicates-asked.result.now in
    let whole : take c.loop-i.i asked ≡ asked = take_all c.loop-i.i asked (omega (arith, c.loop-i-test.false)) in
    subst (λ (all : List NamedPredicate). AllZip (IsAnswered (document_view c.args.spec.now) c.args.computation.now) all
    (map views.answer_view c.loop-i.answers.items))
    (ap (map named_view) whole ∙ c.predicates-asked.ensures) c.loop-i.invariant
