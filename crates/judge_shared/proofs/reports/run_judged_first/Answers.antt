-- What is kept of the run is right of it, by its own judgement or by that of its reduction.
use Rattle.std.proofs.Common.{List, subst}
use Rattle.judge_shared.specs.Sharing.{AreCopies, answers_view}
use Rattle.judge_shared.proofs.FreshTruths.{copies_truths}
use Rattle.judge_shared.proofs.reports.run_judged_first.Goals as goal
use Rattle.pd_report.specs.declared.answer.Answer.{Answer}
use Rattle.pd_spec.specs.Views.{document_view}

pub found_with-requires-clause-kept : goal.found_with-requires-clause-kept
found_with-requires-clause-kept g c =
    copies_truths (document_view c.args.spec.now) c.args.computation.now (answers_view c.in_ok-answers.answers.items)
    c.in_ok-known.known c.limits.ensures.acyclic c.in_ok-answers.ensures
    (subst (λ (found : List Answer). AreCopies c.in_ok-known.known (answers_view found)) c.deref.ensures.value
    c.in_ok-known.ensures)
