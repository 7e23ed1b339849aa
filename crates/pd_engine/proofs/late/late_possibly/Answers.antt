-- What is taken stays the answer, unless it is unknown and a cut is found beyond the width.
use Rattle.std.proofs.Common.{◌≡◌, true, subst}
use Rattle.pd_engine.proofs.LateAnswers.{kept_if_none, late_cut_answers}
use Rattle.pd_engine.specs.Early.{IsLowestCut, IsTaken, IsTriedCut}
use Rattle.pd_pred.specs.Views.{predicate_view}
use Rattle.pd_spec.specs.Views.{document_view}
use Rattle.walk_back.specs.declared.possibly_answer.PossiblyAnswer.TheVariants.{Unknown}
use Rattle.pd_engine.proofs.late.late_possibly.Goals as goal

pub returns-in-Some : goal.returns-in-Some
returns-in-Some c =
    let document = document_view c.args.spec.now in
    let r = c.args.computation.now in
    let predicate = predicate_view c.args.pred.now in
    let beyond : document.beyond_width ≡ true = search in
    let unknown : IsTaken document r predicate (Unknown c.in-Unknown.field-0) =
    subst (IsTaken document r predicate) c.in-Unknown.is c.requires.taken in
    late_cut_answers document r predicate c.args.by_height c.in-Unknown.field-0 c.in-Some.cut beyond
    c.requires.by_height unknown
    (λ is. subst (IsLowestCut r predicate) c.in-Some.is (c.in_ok-found-in-Unknown.ensures.by_height is))
    (λ is. subst (IsTriedCut r predicate) c.in-Some.is (c.in_ok-found-in-Unknown.ensures.tried is))

pub returns-in-None : goal.returns-in-None
returns-in-None c =
    let document = document_view c.args.spec.now in
    let r = c.args.computation.now in
    let predicate = predicate_view c.args.pred.now in
    let beyond : document.beyond_width ≡ true = search in
    kept_if_none document r predicate c.args.by_height c.args.taken.now beyond c.requires.by_height c.requires.taken
    (λ is. subst (IsLowestCut r predicate) c.in-None.is (c.in_ok-found-in-Unknown.ensures.by_height is))
    (λ is. subst (IsTriedCut r predicate) c.in-None.is (c.in_ok-found-in-Unknown.ensures.tried is))
