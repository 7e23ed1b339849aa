-- The answers of a session's computation are its report.
use Rattle.std.proofs.Common.{List, length, map, ap, ◌∙◌, subst}
use Rattle.read_traces.specs.declared.event.Trace.{Trace}
use Rattle.pd_gather.specs.Views.{results_view, traces_view}
use Rattle.pd_report.specs.Views.{answer_view}
use Rattle.def_format.specs.Limits.{event_limit}
use Rattle.pd_spec.specs.Views.{document_view}
use Rattle.judge_session.specs.Computations.{AreWellFormed}
use Rattle.pd_engine.proofs.AnsweredTraces.{answered_report}
use Rattle.pd_engine.proofs.reports.answered.Goals as goal

pub returns : goal.returns
returns g c =
    answered_report (document_view c.args.spec.now) c.args.gathered.streams
    (results_view c.args.gathered.readings.items) (traces_view c.in_ok-traces.traces.items)
    c.in_ok-computation.computation c.in_ok-computation.messages c.processes.result c.total.result
    (map answer_view c.in_ok-answers.answers.items) c.in_ok-traces.ensures.joined
    (subst (λ (traces : List Trace). AreWellFormed (document_view c.args.spec.now) (traces_view traces)
    c.in_ok-computation.computation c.in_ok-computation.messages) c.deref.ensures.value
    c.in_ok-computation.ensures.formed)
    c.in_ok-answers.ensures (c.processes.ensures ∙ ap length c.names.ensures) c.total.ensures.sum

pub computation_of-requires : goal.computation_of-requires
computation_of-requires g c = rw c.deref.ensures.value (c.in_ok-traces.ensures.fit event_limit c.requires)
