-- A document that is refused: its refusal is the report, whatever the streams are.
use Rattle.std.proofs.Common.{◌≡◌, List, refl, ap, Some, None, Option}
use Rattle.def_format.specs.Documents.{Inquiry, InPredicate}
use Rattle.def_format.specs.Documents as documents
use Rattle.def_judgement.specs.Judgements.{IsJudgement, of_refused, RawStream}
use Rattle.def_format.specs.Reports.{Refusal, Refused}
use Rattle.pd_spec.specs.Views.{IsFaultOf}
use Rattle.pd_spec.specs.declared.fault.SpecFault.{SpecFault}
use Rattle.pd_spec.specs.declared.fault.SpecFault.TheVariants as faults
use Rattle.pd_pred.specs.Views.{predicate_fault_view}
use Rattle.def_format.specs.PredicateTexts.{PredicateFault}
use Rattle.judge_session.specs.Refusals.{IsDocumentRefusal}

pub refused_judged : (asked : Inquiry) (streams : List RawStream) (fault : SpecFault) (refusal : Refusal)
    → IsFaultOf asked fault → IsDocumentRefusal fault refusal → IsJudgement asked streams (Refused refusal)
refused_judged asked streams faults.Long refusal is tells = of_refused documents.Long is (ap Refused tells)
refused_judged asked streams faults.Json refusal is tells = of_refused documents.Json is (ap Refused tells)
refused_judged asked streams faults.Shape refusal is tells = of_refused documents.Shape is (ap Refused tells)
refused_judged asked streams faults.Processes refusal is tells = of_refused documents.Processes is (ap Refused tells)
refused_judged asked streams faults.Name refusal is tells = of_refused documents.Name is (ap Refused tells)
refused_judged asked streams faults.NameTwice refusal is tells = of_refused documents.NameTwice is (ap Refused tells)
refused_judged asked streams faults.Vars refusal is tells = of_refused documents.Vars is (ap Refused tells)
refused_judged asked streams faults.Predicates refusal is tells = of_refused documents.Predicates is (ap Refused tells)
refused_judged asked streams faults.Width refusal is tells = of_refused documents.Width is (ap Refused tells)
refused_judged asked streams (faults.Predicate k error) refusal is tells = go (predicate_fault_view error.kind) refl
  where
    go : (o : Option PredicateFault) → predicate_fault_view error.kind ≡ o → IsJudgement asked streams (Refused refusal)
    go None at = absurd (rw at at is)
    go (Some fault) at = of_refused (InPredicate k fault error.at) (rw at at is) (ap Refused (rw at at tells))
refused_judged asked streams faults.Version refusal is tells = of_refused documents.OtherVersion is (ap Refused tells)
refused_judged asked streams faults.Memory refusal is tells = absurd tells
