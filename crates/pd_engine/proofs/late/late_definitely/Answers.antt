-- What is taken stays the answer, unless it is unknown and there is a level for a yes.
use Rattle.std.proofs.Common.{◌≡◌, ℕ, ◌⊎◌, inl, inr, ap, subst, sym, ◌∙◌}
use Rattle.std.specs.Global.{Global}
use Rattle.std.specs.Prelude.{Some, None, true, Vec}
use Rattle.def_format.specs.Documents.{Document}
use Rattle.def_model.specs.Answers.{DefinitelyNo, DefinitelyUnknown, DefinitelyYes}
use Rattle.def_model.specs.Predicates.{Predicate, Recorded}
use Rattle.pd_engine.proofs.LateAnswers.{late_answers, late_none, none_final, stays_if_known}
use Rattle.pd_engine.specs.Early.{IsTakenDefinitely}
use Rattle.pd_pred.specs.Views.{predicate_view}
use Rattle.pd_spec.specs.Views.{document_view}
use Rattle.walk_back.specs.Answers.{definitely_answer_view}
use Rattle.walk_back.specs.declared.definitely_answer.DefinitelyAnswer.{DefinitelyAnswer}
use Rattle.walk_back.specs.declared.definitely_answer.DefinitelyAnswer.TheVariants.{No, Unknown, Yes}
use Rattle.wide.specs.Found.{FindsLate}
use Rattle.pd_engine.proofs.late.late_definitely.Goals as goal

pub returns-in-Some : goal.returns-in-Some
returns-in-Some c =
    let document : Document = document_view c.args.spec.now in
    let r : Recorded = c.args._computation.now in
    let predicate : Predicate = predicate_view c.args._pred.now in
    let asked : document.beyond_width ≡ true = search in
    let unknown : IsTakenDefinitely document r predicate (Unknown c.in-Unknown.field-0) =
    subst (IsTakenDefinitely document r predicate) c.in-Unknown.is c.requires.taken in
    let late : FindsLate r predicate document.width (Some c.in-Some.level) =
    subst (FindsLate r predicate document.width) c.in-Some.is
    (c.requires.late asked (none_final document r predicate c.in-Unknown.field-0 asked unknown)) in
    late_answers document r predicate c.in-Unknown.field-0 c.in-Some.level asked unknown late

pub returns-in-None : goal.returns-in-None
returns-in-None c =
    let document : Document = document_view c.args.spec.now in
    let r : Recorded = c.args._computation.now in
    let predicate : Predicate = predicate_view c.args._pred.now in
    let asked : document.beyond_width ≡ true = search in
    let unknown : IsTakenDefinitely document r predicate (Unknown c.in-Unknown.field-0) =
    subst (IsTakenDefinitely document r predicate) c.in-Unknown.is c.requires.taken in
    let none : FindsLate r predicate document.width None =
    subst (FindsLate r predicate document.width) c.in-None.is
    (c.requires.late asked (none_final document r predicate c.in-Unknown.field-0 asked unknown)) in
    late_none document r predicate c.args.taken.now c.requires.taken none

-- a yes or a no isn't unknown
not_unknown : (taken : DefinitelyAnswer)
    → ((level : ℕ) × (taken ≡ Yes level)) ⊎ ((path : Vec ℕ Global) × (taken ≡ No path)) → (unknown : ℕ)
    → ¬ (definitely_answer_view taken ≡ DefinitelyUnknown unknown)
not_unknown taken (inl (level, is)) unknown said =
    let yes : DefinitelyYes level ≡ DefinitelyUnknown unknown = ap definitely_answer_view (sym is) ∙ said in cc
not_unknown taken (inr (path, is)) unknown said =
    let none : DefinitelyNo path.items ≡ DefinitelyUnknown unknown = ap definitely_answer_view (sym is) ∙ said in cc

pub returns-in-Yes : goal.returns-in-Yes
returns-in-Yes c =
    stays_if_known (document_view c.args.spec.now) c.args._computation.now (predicate_view c.args._pred.now)
    c.args.taken.now (not_unknown c.args.taken.now c.in-Yes.is) c.requires.taken
