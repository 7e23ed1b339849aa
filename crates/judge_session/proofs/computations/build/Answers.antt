-- The computation of traces whose messages are lawful, or the refusal.
use Rattle.std.proofs.Common.{List, sym, subst}
use Rattle.std.specs.Prelude.{All}
use Rattle.std.proofs.lemmas.Simd.{map-map}
use Rattle.def_model.specs.Order.{IsReportedCycle}
use Rattle.def_format.specs.RefusalWords.{named_place}
use Rattle.def_format.specs.Names.{ProcessNames}
use Rattle.pd_gather.specs.Views.{traces_view}
use Rattle.pd_spec.specs.Views.{document_view}
use Rattle.read_traces.specs.Views.{computation_view}
use Rattle.pd_match.specs.Views.{place_view}
use Rattle.pd_match.proofs.ReceivedSends.{counts_messages}
use Rattle.pd_clock.specs.Orders.{places_view}
use Rattle.pd_clock.specs.Computations.{recorded_view}
use Rattle.judge_session.specs.Computations.{AreWellFormed}
use Rattle.judge_session.specs.Refusals.{HasNames}
use Rattle.judge_session.proofs.FitTraces.{well_formed, cycle_report, traces_length}
use Rattle.judge_session.proofs.RefusedPlaces.{cycle_named, cycle_reported}
use Rattle.judge_session.proofs.computations.build.Goals as goal

pub cycle_refusal-requires-clause-one_each : goal.cycle_refusal-requires-clause-one_each
cycle_refusal-requires-clause-one_each c = c.requires.traces.one_each

pub cycle_refusal-requires-clause-cycle : goal.cycle_refusal-requires-clause-cycle
cycle_refusal-requires-clause-cycle c =
    rw c.deref.ensures.value (cycle_reported (IsReportedCycle (computation_view c.args.traces.now))
    c.in-Err-Cycle.field-0 c.in-Err-Cycle.cycle c.in-Err-Cycle.field-0-is c.in-Err-Cycle.ensures.cycle)

pub returns-in-Ok-clause-formed : goal.returns-in-Ok-clause-formed
returns-in-Ok-clause-formed c =
    let names : List ProcessNames = (document_view c.args.spec.now).names in
    let well : AreWellFormed (document_view c.args.spec.now) (traces_view c.args.traces.now)
    (recorded_view (document_view c.args.spec.now).initial c.args.traces.now) c.messages-messages.result =
    well_formed (document_view c.args.spec.now) c.args.traces.now c.messages-messages.result
    (traces_length names c.args.traces.now c.requires.traces) c.requires.lawful
    c.in-Ok.ensures.acyclic
    (counts_messages (computation_view c.args.traces.now) c.args.matched c.messages-messages.result
    c.requires.messages c.messages-messages.ensures) in
    rw c.in-Ok.ensures.recorded well
