-- A document that is refused: each run of it is.
use Rattle.std.proofs.Common.{◌≡◌, ℕ, List, refl, Some, None, Option}
use Rattle.def_format.specs.Documents.{Inquiry, InPredicate}
use Rattle.def_format.specs.Documents as documents
use Rattle.def_format.specs.PredicateTexts.{PredicateFault}
use Rattle.def_format.specs.RefusalWords.{document_refusal}
use Rattle.def_format.specs.Reports.{Refusal, Refused}
use Rattle.def_recordings.specs.Recordings.{of_document, recorded_process_limit}
use Rattle.pd_pred.specs.Views.{predicate_fault_view}
use Rattle.pd_spec.specs.Views.{IsFaultWithin}
use Rattle.pd_spec.specs.declared.fault.SpecFault.{SpecFault}
use Rattle.pd_spec.specs.declared.fault.SpecFault.TheVariants as faults
use Rattle.judge_session.specs.Refusals.{IsDocumentRefusal}
use Rattle.app_reduce.specs.Outcomes.{IsRefusal}

-- the refusal of a document for this fault
by_fault : (inquiry : Inquiry) (streams : List (List ℕ)) (fault : documents.DocumentFault) (refusal : Refusal)
    → documents.IsRefusedWithin recorded_process_limit inquiry fault → refusal ≡ document_refusal fault
    → IsRefusal inquiry streams (Refused refusal)
by_fault inquiry streams fault refusal is tells = record {
  refusal = refusal;
  is_refused = of_document fault is tells;
  is_report = refl;
}

pub refused_run : (asked : Inquiry) (streams : List (List ℕ)) (fault : SpecFault) (refusal : Refusal)
    → IsFaultWithin recorded_process_limit asked fault → IsDocumentRefusal fault refusal
    → IsRefusal asked streams (Refused refusal)
refused_run asked streams faults.Long refusal is tells = by_fault asked streams documents.Long refusal is tells
refused_run asked streams faults.Json refusal is tells = by_fault asked streams documents.Json refusal is tells
refused_run asked streams faults.Shape refusal is tells = by_fault asked streams documents.Shape refusal is tells
refused_run asked streams faults.Processes refusal is tells =
    by_fault asked streams documents.Processes refusal is tells
refused_run asked streams faults.Name refusal is tells = by_fault asked streams documents.Name refusal is tells
refused_run asked streams faults.NameTwice refusal is tells =
    by_fault asked streams documents.NameTwice refusal is tells
refused_run asked streams faults.Vars refusal is tells = by_fault asked streams documents.Vars refusal is tells
refused_run asked streams faults.Predicates refusal is tells =
    by_fault asked streams documents.Predicates refusal is tells
refused_run asked streams faults.Width refusal is tells = by_fault asked streams documents.Width refusal is tells
refused_run asked streams (faults.Predicate k error) refusal is tells = go (predicate_fault_view error.kind) refl
  where
    go : (o : Option PredicateFault) → predicate_fault_view error.kind ≡ o → IsRefusal asked streams (Refused refusal)
    go None at = absurd (rw at at is)
    go (Some fault) at =
        by_fault asked streams (InPredicate k fault error.at) refusal (rw at at is) (rw at at tells)
refused_run asked streams faults.Version refusal is tells =
    by_fault asked streams documents.OtherVersion refusal is tells
refused_run asked streams faults.Memory refusal is tells = absurd tells
