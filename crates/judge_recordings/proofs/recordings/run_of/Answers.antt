-- The run of traces whose messages are lawful, or the refusal of a causal cycle.
use Rattle.def_model.specs.Order.{IsReportedCycle}
use Rattle.pd_match.proofs.ReceivedSends.{counts_messages}
use Rattle.pd_spec.specs.Views.{document_view}
use Rattle.read_traces.specs.Views.{computation_view}
use Rattle.judge_session.proofs.RefusedPlaces.{cycle_reported}
use Rattle.judge_recordings.proofs.RunFacts.{run_is}
use Rattle.judge_recordings.proofs.recordings.run_of.Goals as goal

pub cycle_refusal-requires-clause-one_each : goal.cycle_refusal-requires-clause-one_each
cycle_refusal-requires-clause-one_each g c = c.requires.1.one_each

pub cycle_refusal-requires-clause-cycle : goal.cycle_refusal-requires-clause-cycle
cycle_refusal-requires-clause-cycle g c =
    rw c.deref.ensures.value (cycle_reported (IsReportedCycle (computation_view c.args.traces.now))
    c.in-Err-Cycle.field-0 c.in-Err-Cycle.cycle c.in-Err-Cycle.field-0-is c.in-Err-Cycle.ensures.cycle)

pub returns-in-Ok-clause-run : goal.returns-in-Ok-clause-run
returns-in-Ok-clause-run g c =
    run_is (document_view c.args.spec.now) c.args.traces.now
    (record { kept = c.in-Ok.kept; events = c.in-Some.events; messages = c.messages.result })
    c.in_ok-matched.ensures.lawful c.in-Ok.ensures.acyclic c.in-Some.ensures
    (counts_messages (computation_view c.args.traces.now) c.in_ok-matched.matched c.messages.result
    c.in_ok-matched.ensures.messages c.messages.ensures) c.in-Ok.ensures.found c.in-Ok.ensures.few
    c.in-Ok.ensures.many
