-- A session has no more processes than a document may have.
use Rattle.std.proofs.Common.{◌≡◌, suc, ◌≤◌, List, [], ◌∷◌, length, Ok, Err, refl, sym, ap, subst, ◌∙◌}
use Rattle.std.specs.List.{AllByRecursion}
use Rattle.def_format.specs.Documents.{Document, Inquiry, IsDocument}
use Rattle.def_format.specs.Limits.{process_limit}
use Rattle.def_format.specs.Names.{ProcessNames}
use Rattle.def_format.specs.Readings.{Trace}
use Rattle.def_format.specs.Sessions.{StreamResult, session}
use Rattle.def_format.proofs.DocumentParts.{lawful_parts}
use Rattle.def_format.proofs.FaultLines.{result_is_up_to}
use Rattle.def_format.proofs.SessionFaults.{ResultFits, session_traces_fit}
use Rattle.def_format.proofs.TraceFits.{traces_fit_lem}
use Rattle.def_judgement.specs.Judgements.{AreResultsOf, IsResultOf, RawStream, events_of_traces}

results_fit : (names : List ProcessNames) (streams : List RawStream) (results : List StreamResult)
    → AreResultsOf names streams results → AllByRecursion (ResultFits names) results
results_fit names [] [] are = tt
results_fit names [] (r ∷ results) are = absurd are
results_fit names (s ∷ streams) [] are = absurd are
results_fit names (s ∷ streams) (r ∷ results) are = (one r are.0, results_fit names streams results are.1)
  where
    one : (r : StreamResult) → IsResultOf names s r → ResultFits names r
    one (Ok trace) is =
        (traces_fit_lem names s.ending s.bytes trace is, result_is_up_to names s.ending s.bytes (Ok trace) is)
    one (Err fault) is = result_is_up_to names s.ending s.bytes (Err fault) is

events_length : (traces : List Trace) → length (events_of_traces traces) ≡ length traces
events_length [] = refl
events_length (trace ∷ traces) = ap suc (events_length traces)

pub few_processes : (inquiry : Inquiry) (document : Document) (streams : List RawStream) (results : List StreamResult)
    (traces : List Trace) → IsDocument inquiry document → AreResultsOf document.names streams results
    → session document.names (length streams) results ≡ Ok traces
    → length (events_of_traces traces) ≤ process_limit
few_processes inquiry document streams results traces is are joined =
    let fit = session_traces_fit document.names (length streams) results traces
    (results_fit document.names streams results are) joined in
    subst (λ n. n ≤ process_limit) (sym (events_length traces ∙ fit.0)) (lawful_parts inquiry document is).few_processes
