-- The refusal of a causal cycle.
use Rattle.std.proofs.Common.{List, ◌∙◌, sym, subst}
use Rattle.std.specs.Prelude.{All}
use Rattle.std.proofs.lemmas.List.{length-map}
use Rattle.std.proofs.lemmas.Simd.{map-map}
use Rattle.def_format.specs.RefusalWords.{named_place}
use Rattle.def_format.specs.Names.{ProcessNames}
use Rattle.pd_clock.specs.Orders.{places_view}
use Rattle.pd_spec.specs.Views.{document_view}
use Rattle.pd_match.specs.Views.{place_view}
use Rattle.read_traces.specs.Views.{computation_view}
use Rattle.read_traces.specs.declared.event.Trace.{Trace}
use Rattle.judge_session.specs.Refusals.{HasNames}
use Rattle.judge_session.proofs.FitTraces.{cycle_report}
use Rattle.judge_session.proofs.RefusedPlaces.{cycle_named}
use Rattle.judge_session.proofs.computations.cycle_refusal.Goals as goal

pub of_cycle-requires : goal.of_cycle-requires
of_cycle-requires c =
    subst (λ (names : List ProcessNames). All (HasNames names) c.args.cycle.now) (sym c.names.ensures)
    (cycle_named (document_view c.args.spec.now).names (computation_view c.args.traces.now) c.args.cycle.now
    (length-map c.args.traces.now (λ (trace : Trace). trace.events) ∙ c.requires.one_each) c.requires.cycle)

pub returns : goal.returns
returns c =
    rw (c.in_ok-refusal.ensures, c.names.ensures)
    (rw (sym (map-map (named_place (document_view c.args.spec.now).names) place_view c.args.cycle.now))
    (cycle_report (document_view c.args.spec.now) c.args.traces.now (places_view c.args.cycle.now)
    c.requires.lawful c.requires.cycle))
