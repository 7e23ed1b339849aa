-- Copies of the answers of the judgement are truths.
use Rattle.std.proofs.Common.{List, subst}
use Rattle.std.proofs.lemmas.Result.{IfOk-weaker}
use Rattle.judge_shared.specs.Sharing.{AreCopies, answers_view}
use Rattle.judge_shared.proofs.FreshTruths.{copies_truths}
use Rattle.judge_shared.proofs.reduced.known_truths.Goals as goal
use Rattle.pd_report.specs.declared.answer.Answer.{Answer}
use Rattle.pd_spec.specs.Views.{document_view}

pub returns : goal.returns
returns g c =
    IfOk-weaker c.known_answers.result _ _ (λ known copies. copies_truths (document_view c.args.spec.now)
    c.args.computation.now (answers_view c.in_ok-answers.answers.items) known c.limits.ensures.acyclic
    c.in_ok-answers.ensures
    (subst (λ (found : List Answer). AreCopies known (answers_view found)) c.deref.ensures.value copies))
    c.known_answers.ensures
