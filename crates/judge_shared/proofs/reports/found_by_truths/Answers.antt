-- Copies of answers without evidence are these answers.
use Rattle.std.proofs.Common.{◌≡◌, List, map, ap, sym, subst, ◌∙◌}
use Rattle.judge_shared.specs.Sharing.{AreTruths, answers_view, bare}
use Rattle.judge_shared.proofs.SharedAnswers.{bare_copies}
use Rattle.judge_shared.proofs.reports.found_by_truths.Goals as goal
use Rattle.pd_report.specs.declared.answer.Answer.{Answer}
use Rattle.pd_spec.specs.Views.{document_view}

pub found_with-requires-clause-kept : goal.found_with-requires-clause-kept
found_with-requires-clause-kept c =
    subst (AreTruths (document_view c.args.spec.now) c.args.computation.now) (sym same) c.requires.truths
  where
    same : answers_view c.in_ok-kept.kept.items ≡ answers_view c.args.truths.items
    same =
        bare_copies (answers_view c.in_ok-kept.kept.items) c.deref.result.now c.in_ok-kept.ensures
        ∙ (ap (λ (found : List Answer). map bare (answers_view found)) c.deref.ensures.value
        ∙ c.requires.truths.are_bare)
