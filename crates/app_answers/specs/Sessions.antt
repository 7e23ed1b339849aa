-- A session that was judged.
use Rattle.std.specs.Prelude.{◌≡◌}
use Rattle.pd_clock.specs.Computations.{recorded_view}
use Rattle.pd_spec.specs.Views.{document_view}
use Rattle.read_traces.specs.SessionTraces.{AreTraces}
use Rattle.app_answers.specs.declared.session.Session.{Session}

-- there is a trace of each process of the document, and the computation is theirs
pub record IsJudged (session : Session) : Type 0 where
  pub fit : AreTraces (document_view session.spec.now).names session.traces.now
  pub recorded : session.computation.now
      ≡ recorded_view (document_view session.spec.now).initial session.traces.now
