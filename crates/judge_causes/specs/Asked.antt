-- What is asked of a run.
use Rattle.def_model.specs.Predicates.{Predicate, Recorded}
use Rattle.pd_clock.specs.Computations.{recorded_view}
use Rattle.pd_pred.specs.Views.{predicate_view}
use Rattle.pd_spec.specs.Views.{document_view}
use Rattle.read_traces.specs.SessionTraces.{AreTraces}
use Rattle.judge_causes.specs.declared.asked.Asked.{Asked}

-- what was recorded
abbrev pub asked_run : Asked → Recorded
asked_run asked = recorded_view (document_view asked.spec.now).initial asked.traces.now

abbrev pub asked_predicate : Asked → Predicate
asked_predicate asked = predicate_view asked.pred.now

-- there is a trace of each process of the document
abbrev pub FitsAsked : Asked → Type 0
FitsAsked asked = AreTraces (document_view asked.spec.now).names asked.traces.now
