-- What the parts of a recorded run are.
use Rattle.std.proofs.Common.{◌≡◌, List, ap, subst, ◌∙◌}
use Rattle.std.specs.Prelude.{IfNone, IfSome}
use Rattle.def_format.specs.Documents.{Document}
use Rattle.def_judgement.specs.Judgements.{events_of_traces, recorded_of}
use Rattle.def_model.specs.Cuts.{total}
use Rattle.def_model.specs.Events.{Computation}
use Rattle.def_model.specs.Messages.{HasLawfulMessages, HasMessages}
use Rattle.def_model.specs.Order.{HasNoCycle}
use Rattle.def_model.specs.Predicates.{Recorded}
use Rattle.judge_orders.specs.KeptRuns.{HasKept, KeepsFew}
use Rattle.judge_orders.specs.declared.long_order.KeptRun.{KeptRun}
use Rattle.judge_recordings.specs.Runs.{IsRunOf}
use Rattle.judge_recordings.specs.declared.recordings.RecordedRun.{RecordedRun}
use Rattle.judge_session.proofs.FitTraces.{same_events, same_recorded}
use Rattle.pd_clock.specs.Computations.{recorded_view}
use Rattle.pd_gather.specs.Views.{traces_view}
use Rattle.read_traces.specs.Views.{computation_view}
use Rattle.read_traces.specs.declared.event.Trace.{Trace}

pub run_is : (document : Document) (traces : List Trace) (run : RecordedRun)
    → HasLawfulMessages document.version (computation_view traces) → HasNoCycle (computation_view traces)
    → run.events ≡ total (computation_view traces) → HasMessages (computation_view traces) run.messages
    → IfSome run.kept (HasKept document (recorded_view document.initial traces))
    → IfSome run.kept (λ (kept : KeptRun). KeepsFew document (recorded_view document.initial traces))
    → IfNone run.kept (¬ KeepsFew document (recorded_view document.initial traces))
    → IsRunOf document (traces_view traces) run
run_is document traces run lawful acyclic events messages kept few many = record {
  formed = record {
    messages = subst (HasLawfulMessages document.version) same lawful;
    no_cycle = subst HasNoCycle same acyclic;
  };
  all_events = events ∙ ap total same;
  all_messages = subst (λ (c : Computation). HasMessages c run.messages) same messages;
  has_kept = subst (λ (r : Recorded). IfSome run.kept (HasKept document r)) recorded kept;
  few = subst (λ (r : Recorded). IfSome run.kept (λ (kept : KeptRun). KeepsFew document r)) recorded few;
  many = subst (λ (r : Recorded). IfNone run.kept (¬ KeepsFew document r)) recorded many;
}
  where
    same : computation_view traces ≡ events_of_traces (traces_view traces)
    same = same_events traces

    recorded : recorded_view document.initial traces ≡ recorded_of document (traces_view traces)
    recorded = same_recorded document traces
