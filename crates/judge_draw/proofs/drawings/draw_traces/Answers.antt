-- What is drawn of a session's traces, by the messages that were matched.
use Rattle.std.proofs.Common.{List, sym, subst, ap, ◌∙◌}
use Rattle.def_model.specs.Events.{Place}
use Rattle.def_model.specs.Messages.{IsMessageList}
use Rattle.read_traces.specs.Views.{computation_view}
use Rattle.pd_match.specs.Views.{pairs_view}
use Rattle.pd_report.specs.Views.{report_view}
use Rattle.judge_session.specs.Unanswered.{NamesNoCycle}
use Rattle.judge_draw.specs.Drawings.{NeedsNoPicture}
use Rattle.judge_session.proofs.SessionReports.{refusal_given}
use Rattle.judge_draw.proofs.drawings.draw_traces.Goals as goal

pub draw_formed-requires-clause-pairs : goal.draw_formed-requires-clause-pairs
draw_formed-requires-clause-pairs g c =
    subst (λ (pairs : List (Place × Place)). IsMessageList (computation_view c.args.traces.now) pairs)
    (sym (ap pairs_view c.deref.ensures.value ∙ c.in_ok-pairs.ensures)) c.in_ok-matched.ensures.messages

pub draw_unanswered-requires-clause-messages : goal.draw_unanswered-requires-clause-messages
draw_unanswered-requires-clause-messages g c =
    subst (λ (pairs : List (Place × Place)). IsMessageList (computation_view c.args.traces.now) pairs)
    (sym (ap pairs_view c.deref-in-Err.ensures.value ∙ c.in_ok-pairs.ensures)) c.in_ok-matched.ensures.messages

pub returns-in_err-matched-clause-undrawn : goal.returns-in_err-matched-clause-undrawn
returns-in_err-matched-clause-undrawn g c =
    refusal_given c.from_residual.result c.in_err-matched.field-0.0 NamesNoCycle
    (NeedsNoPicture (report_view c.args.claimed.now)) (λ report none same. none) c.from_residual.ensures.1
    c.in_err-matched.ensures.no_cycle
