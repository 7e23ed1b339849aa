-- What is drawn is the cycle for which the session is refused, if the report states it.
use Rattle.std.proofs.Common.{◌≡◌, ap, sym, ◌∙◌, true}
use Rattle.def_format.specs.Reports.{Cycle, Refused}
use Rattle.pd_match.specs.Views.{pairs_view}
use Rattle.pd_report.specs.Views.{named_places_view, refusal_view, report_view}
use Rattle.pd_spec.specs.Views.{document_view}
use Rattle.read_traces.specs.Views.{computation_view}
use Rattle.judge_draw.specs.Cycles.{IsCycleDrawn}
use Rattle.judge_draw.proofs.CycleNames.{anyway, cycle_undrawn, refusal_drawn}
use Rattle.judge_draw.proofs.refused.draw_cycle.Goals as goal

pub returns-in-Cycle-clause-drawn : goal.returns-in-Cycle-clause-drawn
returns-in-Cycle-clause-drawn c =
    refusal_drawn (document_view c.args.spec.now) (computation_view c.args.traces.now) (pairs_view c.args.pairs.now)
    (named_places_view c.deref.result.now) (refusal_view c.args.refusal.now) c.args.extent
    (ap refusal_view c.in-Cycle.is
    ∙ ap (λ places. Cycle (named_places_view places)) (sym c.deref.ensures.value)) c.draw_places.result
    c.draw_places.ensures

pub returns-in-Cycle-clause-claimed : goal.returns-in-Cycle-clause-claimed
returns-in-Cycle-clause-claimed c =
    let clean : c.is_claimed.result ≡ true = search in
    anyway c.draw_places.result (report_view c.args.claimed.now ≡ Refused (refusal_view c.args.refusal.now))
    (c.is_claimed.ensures.0 clean)

pub returns-in-Cycle-clause-undrawn : goal.returns-in-Cycle-clause-undrawn
returns-in-Cycle-clause-undrawn c =
    let document = document_view c.args.spec.now in
    cycle_undrawn document.names (report_view c.args.claimed.now) (named_places_view c.deref.result.now)
    (refusal_view c.args.refusal.now)
    (λ picture. IsCycleDrawn document (computation_view c.args.traces.now) (pairs_view c.args.pairs.now)
    (named_places_view c.deref.result.now) c.args.extent picture.drawing)
    (ap refusal_view c.in-Cycle.is
    ∙ ap (λ places. Cycle (named_places_view places)) (sym c.deref.ensures.value)) c.requires.named
    c.draw_places.result c.draw_places.ensures
