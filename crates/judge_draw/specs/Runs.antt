-- What a session that has been read is.
use Rattle.std.specs.Prelude.{◌≡◌, length}
use Rattle.def_model.specs.Messages.{IsMessageList}
use Rattle.pd_gather.specs.Views.{traces_view}
use Rattle.def_judgement.specs.Judgements.{recorded_of}
use Rattle.pd_match.specs.Views.{pairs_view}
use Rattle.pd_spec.specs.Views.{document_view}
use Rattle.read_traces.specs.Views.{computation_view}
use Rattle.judge_draw.specs.declared.run.Run.{Run}

-- the computation and the messages are those of the traces, and each process of the document has a trace
pub record IsRun (run : Run) : Type 0 where
  pub recorded : run.computation.now ≡ recorded_of (document_view run.spec.now) (traces_view run.traces.now)
  pub is_recorded : computation_view run.traces.now ≡ run.computation.now.events
  pub are_messages : IsMessageList run.computation.now.events (pairs_view run.pairs.now)
  pub one_each : length run.computation.now.events ≡ length (document_view run.spec.now).names
