-- What a recorded run is.
use Rattle.std.specs.Prelude.{◌≡◌, IfNone, IfSome, List}
use Rattle.def_format.specs.Documents.{Document}
use Rattle.def_format.specs.Readings as readings
use Rattle.def_judgement.specs.Judgements.{events_of_traces, recorded_of}
use Rattle.def_model.specs.Cuts.{total}
use Rattle.def_model.specs.Messages.{HasMessages}
use Rattle.def_model.specs.Order.{IsWellFormed}
use Rattle.judge_orders.specs.KeptRuns.{HasKept, KeepsFew}
use Rattle.judge_recordings.specs.declared.recordings.RecordedRun.{RecordedRun}

-- The traces make a well-formed computation of this many events and messages. The order and the kept events are there
-- exactly if no process keeps more of them than the limit of events, and are those of what was recorded.
pub record IsRunOf (document : Document) (traces : List readings.Trace) (run : RecordedRun) : Type 0 where
  pub formed : IsWellFormed document.version (events_of_traces traces)
  pub all_events : run.events ≡ total (events_of_traces traces)
  pub all_messages : HasMessages (events_of_traces traces) run.messages
  pub has_kept : IfSome run.kept (HasKept document (recorded_of document traces))
  pub few : IfSome run.kept (λ kept. KeepsFew document (recorded_of document traces))
  pub many : IfNone run.kept (¬ KeepsFew document (recorded_of document traces))
