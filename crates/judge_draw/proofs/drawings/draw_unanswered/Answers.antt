-- The picture of a refused cycle, or the refusal.
use Rattle.std.proofs.Common.{ap, length, sym, ◌∙◌}
use Rattle.def_model.specs.Events.{Computation}
use Rattle.pd_match.specs.Views.{pairs_view}
use Rattle.pd_report.specs.Views.{refusal_view, report_view}
use Rattle.pd_spec.specs.Views.{document_view}
use Rattle.pd_gather.specs.Views.{traces_view}
use Rattle.judge_draw.proofs.SessionDrawings.{cycle_drawn}
use Rattle.judge_draw.proofs.StatedCycles.{left_undrawn, refusal_places}
use Rattle.judge_session.proofs.FitTraces.{same_events, traces_length}
use Rattle.judge_draw.proofs.drawings.draw_unanswered.Goals as goal

pub returns-in-Some-clause-drawn : goal.returns-in-Some-clause-drawn
returns-in-Some-clause-drawn c =
    cycle_drawn (document_view c.args.spec.now) c.args.traces.now (pairs_view c.args.pairs.now)
    (report_view c.args.claimed.now) (refusal_view c.in-Refused.refusal) c.args.scope.now.extent
    c.in-Some.picture.drawing c.requires.messages
    (rw c.in-Refused.is at c.requires.refused) (rw c.in-Some.is at c.in_ok-drawn-in-Refused.ensures.claimed)
    (rw c.in-Some.is at c.in_ok-drawn-in-Refused.ensures.drawn)

pub draw_cycle-requires-clause-named : goal.draw_cycle-requires-clause-named
draw_cycle-requires-clause-named c =
    let document = document_view c.args.spec.now in
    refusal_places document (traces_view c.args.traces.now) (refusal_view c.in-Refused.refusal)
    (ap (λ (events : Computation). length events) (sym (same_events c.args.traces.now))
    ∙ traces_length document.names c.args.traces.now c.requires.traces)
    (rw c.in-Refused.is at c.requires.refused)

pub returns-in-None-clause-undrawn : goal.returns-in-None-clause-undrawn
returns-in-None-clause-undrawn c =
    left_undrawn (report_view c.args.claimed.now) (refusal_view c.in-Refused.refusal)
    (c.in_ok-drawn-in-Refused.ensures.undrawn c.in-None.is)
