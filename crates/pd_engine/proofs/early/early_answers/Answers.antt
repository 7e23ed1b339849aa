-- What is final is the answer where the document asks for it.
use Rattle.std.proofs.Common.{◌≡◌, ℕ, subst}
use Rattle.std.proofs.lemmas.Result.{IfOk-weaker}
use Rattle.std.specs.Prelude.{Option, Some, None, true}
use Rattle.def_format.specs.Documents.{Document}
use Rattle.def_model.specs.Predicates.{Predicate, Recorded}
use Rattle.pd_engine.specs.Early.{IsEarlyDefinitely}
use Rattle.pd_pred.specs.Views.{predicate_view}
use Rattle.pd_spec.specs.Views.{document_view}
use Rattle.walk_back.specs.declared.definitely_answer.DefinitelyAnswer.{DefinitelyAnswer}
use Rattle.wide.specs.Found.{FindsFinal, FindsLate}
use Rattle.pd_engine.proofs.early.early_answers.Goals as goal

definitely_asked : (document : Document) (r : Recorded) (predicate : Predicate) (answer : Option DefinitelyAnswer)
    → document.beyond_width ≡ true → FindsFinal r predicate document.width answer
    → IsEarlyDefinitely document r predicate answer
definitely_asked document r predicate (Some answer) beyond final = (beyond, final)
definitely_asked document r predicate None beyond final = λ asked. final

pub returns-clause-definitely : goal.returns-clause-definitely
returns-clause-definitely c =
    let document : Document = document_view c.args.spec.now in
    let r : Recorded = c.args.computation.now in
    let predicate : Predicate = predicate_view c.args.pred.now in
    let asked : document.beyond_width ≡ true = search in
    IfOk-weaker c.decide.result (λ decided. FindsFinal r predicate c.width.result decided.definitely) _
    (λ decided finds. definitely_asked document r predicate decided.definitely asked
    (subst (λ (w : ℕ). FindsFinal r predicate w decided.definitely) c.width.ensures finds)) c.decide.ensures.definitely

pub returns-clause-late : goal.returns-clause-late
returns-clause-late c =
    let document : Document = document_view c.args.spec.now in
    let r : Recorded = c.args.computation.now in
    let predicate : Predicate = predicate_view c.args.pred.now in
    IfOk-weaker c.decide.result
    (λ decided. FindsFinal r predicate c.width.result None → FindsLate r predicate c.width.result decided.late) _
    (λ decided finds asked. subst (λ (w : ℕ). FindsFinal r predicate w None → FindsLate r predicate w decided.late)
    c.width.ensures finds) c.decide.ensures.late
