-- The session is that of the traces.
use Rattle.std.proofs.Common.{sym, ◌∙◌}
use Rattle.judge_session.proofs.FitTraces.{same_recorded}
use Rattle.pd_spec.specs.Views.{document_view}
use Rattle.app_ends.proofs.explained_answers.put_traces.Goals as goal

pub put_session-requires : goal.put_session-requires
put_session-requires g c = (
  c.type_bounds.sync-R,
  record {
    fit = c.requires;
    recorded =
        c.in-Ok.ensures.formed.same ∙ sym (same_recorded (document_view c.args.spec.now) c.args.traces.now);
  },
)
