-- The traces fit, and what is found of them is found of the receipts.
use Rattle.std.proofs.Common.{List, ap, ◌∙◌}
use Rattle.def_model.specs.Predicates.{Initial}
use Rattle.pd_clock.specs.Computations.{recorded_view}
use Rattle.pd_clock.specs.Orders.{places_view}
use Rattle.pd_spec.specs.Views.{document_view}
use Rattle.read_traces.specs.declared.event.Trace.{Trace}
use Rattle.judge_causes.specs.Asked.{asked_predicate, asked_run}
use Rattle.judge_causes.specs.Reduced.{is_listed}
use Rattle.judge_causes.proofs.TrialLaws.{fit_reduced, run_view, trial_of_reduced}
use Rattle.judge_causes.proofs.trial.try_receipts.Goals as goal

pub build-requires-clause-traces : goal.build-requires-clause-traces
build-requires-clause-traces g c =
    rw (c.deref-2.ensures.value, c.in_ok-traces.ensures)
    (fit_reduced (document_view c.args.asked.now.spec.now).names (is_listed (places_view c.args.kept.now))
    c.args.asked.now.traces.now c.requires)

pub returns : goal.returns
returns g c =
    let initial : Initial = (document_view c.args.asked.now.spec.now).initial in
    trial_of_reduced (asked_run c.args.asked.now) c.in-Ok-build.computation (asked_predicate c.args.asked.now)
    (places_view c.args.kept.now) c.trial_of.result
    (c.in-Ok-build.ensures.recorded
    ∙ ap (λ (traces : List Trace). recorded_view initial traces) (c.deref-2.ensures.value ∙ c.in_ok-traces.ensures)
    ∙ run_view (is_listed (places_view c.args.kept.now)) initial c.args.asked.now.traces.now) c.trial_of.ensures
