-- The truths of the reduction are those of the run.
use Rattle.std.proofs.Common.{◌≡◌, ap, subst, ◌∙◌}
use Rattle.std.proofs.lemmas.Option.{IfSome_then}
use Rattle.std.proofs.lemmas.Result.{IfOk-weaker}
use Rattle.def_model.specs.Predicates.{Recorded}
use Rattle.judge_reduced.specs.Reductions.{IsReductionOf}
use Rattle.judge_shared.specs.Sharing.{AreTruths, answers_view}
use Rattle.judge_shared.proofs.ReducedTruths.{reduced_truths}
use Rattle.judge_shared.proofs.reduced.reduced_answers.Goals as goal
use Rattle.pd_clock.specs.Computations.{recorded_view}
use Rattle.pd_spec.specs.Views.{document_view}

pub returns : goal.returns
returns g c =
    IfOk-weaker c.known_truths.result _ _ (λ known truths. IfSome_then known truths (λ found of_reduced.
    reduced_truths c.answers.ensures.possibly c.answers.ensures.definitely (document_view c.args.spec.now)
    c.args.computation.now c.in-Some.traces.items (answers_view found.items) c.limits.ensures.acyclic is
    (subst (λ (made : Recorded). AreTruths (document_view c.args.spec.now) made (answers_view found.items)) recorded
    of_reduced)))
    c.known_truths.ensures
  where
    is : IsReductionOf (document_view c.args.spec.now) c.args.computation.now c.in-Some.traces.items
    is = rw c.in-Some.is at c.in_ok-traces.ensures.made

    recorded : c.in-Some-2.reduced ≡ recorded_view (document_view c.args.spec.now).initial c.in-Some.traces.items
    recorded =
        (rw c.in-Some-2.is at c.in_ok-reduced.ensures)
        ∙ ap (recorded_view (document_view c.args.spec.now).initial) c.deref.ensures.value
