-- What comes of what a bundle holds.
use Rattle.std.proofs.Common.{◌≡◌, ℕ, ◌<◌, Bool, true, false, List, [], ◌∷◌, ◌++◌, length, append-nil, refl, sym, ap, ◌∙◌, inl, inr, subst, Some, None, Option, Ok, Err}
use Rattle.std.specs.Prelude.{OnOk, Result}
use Rattle.def_format.specs.Documents as documents
use Rattle.def_format.specs.Documents.{Document, DocumentFault, InPredicate, Inquiry, IsDocument, IsRefusedDocument, Options, inquiry_of}
use Rattle.def_format.specs.PredicateTexts.{PredicateFault}
use Rattle.def_format.specs.RefusalWords.{document_refusal}
use Rattle.def_format.specs.Reports.{Refusal, Refused, Report}
use Rattle.def_judgement.specs.Findings.{names_asked}
use Rattle.def_judgement.specs.Headline.{JudgementIsTrue}
use Rattle.def_judgement.specs.Judgements.{IsJudgement, ended_streams, of_refused}
use Rattle.def_judgement.specs.OneReport.{DocumentNotRefused, OneDocument}
use Rattle.def_judgement.specs.Writes.{Source}
use Rattle.judge_bundles.specs.BundleRuns.{IsOutcomeOfRead}
use Rattle.judge_bundles.specs.Contents.{HoldsSession}
use Rattle.judge_runs.specs.Runs.{Reported, Unnamed}
use Rattle.judge_runs.specs.Wishes.{Condition, first_unnamed, names_of}
use Rattle.judge_session.proofs.SessionReports.{judged_of_results}
use Rattle.judge_session.specs.Refusals.{IsDocumentRefusal}
use Rattle.judge_shared.specs.SharedReports.{IsRunReport}
use Rattle.judge_shared.specs.Sharing.{IsRunReportOfResults}
use Rattle.pd_gather.specs.Views.{results_view}
use Rattle.pd_gather.specs.declared.gathered.Gathered.{Gathered}
use Rattle.pd_pred.specs.Views.{predicate_fault_view}
use Rattle.pd_spec.specs.Views.{IsFaultOf, document_view}
use Rattle.pd_spec.specs.declared.fault.SpecFault.{SpecFault}
use Rattle.pd_spec.specs.declared.fault.SpecFault.TheVariants as faults
use Rattle.pd_spec.specs.declared.spec.Spec.{Spec}
use Rattle.read_bundle.specs.PartsRead.{AreStreams}
use Rattle.read_bundle.specs.Steps.{AreParts, HasCut, HasParts, State}
use Rattle.read_bundle.specs.declared.fault.BundleFault.{BundleFault}

-- ---- a document that is refused

-- why the inquiry is refused, by the fault and by its refusal in a report
abbrev pub IsRefusedAs : Inquiry → Refusal → Type 0
IsRefusedAs inquiry refusal =
    (reason : DocumentFault) × IsRefusedDocument inquiry reason × (refusal ≡ document_refusal reason)

refused_as : (inquiry : Inquiry) (fault : SpecFault) (refusal : Refusal) → IsFaultOf inquiry fault
    → IsDocumentRefusal fault refusal → IsRefusedAs inquiry refusal
refused_as inquiry faults.Long refusal is same = (documents.Long, is, same)
refused_as inquiry faults.Json refusal is same = (documents.Json, is, same)
refused_as inquiry faults.Shape refusal is same = (documents.Shape, is, same)
refused_as inquiry faults.Processes refusal is same = (documents.Processes, is, same)
refused_as inquiry faults.Name refusal is same = (documents.Name, is, same)
refused_as inquiry faults.NameTwice refusal is same = (documents.NameTwice, is, same)
refused_as inquiry faults.Vars refusal is same = (documents.Vars, is, same)
refused_as inquiry faults.Predicates refusal is same = (documents.Predicates, is, same)
refused_as inquiry faults.Width refusal is same = (documents.Width, is, same)
refused_as inquiry (faults.Predicate k error) refusal is same = go (predicate_fault_view error.kind) refl
  where
    go : (o : Option PredicateFault) → predicate_fault_view error.kind ≡ o → IsRefusedAs inquiry refusal
    go None at = absurd (rw at at is)
    go (Some fault) at = (InPredicate k fault error.at, rw at at is, rw at at same)
refused_as inquiry faults.Version refusal is same = (documents.OtherVersion, is, same)
refused_as inquiry faults.Memory refusal is same = absurd same

module _ (input : Source) (options : Options) (wishes : List Condition) where
  pub refused_held : (document : List ℕ) (streams : List (List ℕ)) (fault : SpecFault) (refusal : Refusal)
      → DocumentNotRefused → JudgementIsTrue → IsFaultOf (inquiry_of options document) fault
      → IsDocumentRefusal fault refusal → AreParts input (document ∷ streams)
      → IsOutcomeOfRead options wishes input (Reported (Refused refusal))
  refused_held document streams fault refusal not_refused are_true is same parts =
      let inquiry = inquiry_of options document in
      let found = refused_as inquiry fault refusal is same in
      let right : IsJudgement inquiry (ended_streams streams) (Refused refusal) =
      of_refused found.0 found.1 (ap Refused found.2) in
      record {
        bundle = parts.bundle;
        is_given = parts.is_given;
        fits = parts.fits;
        document = document;
        streams = streams;
        parts = parts.are_parts;
        holds = (
          λ read is_read. absurd (not_refused inquiry read found.0 is_read found.1),
          inl (right, are_true inquiry (ended_streams streams) (Refused refusal) right),
        );
      }

  -- ---- a document that lacks a predicate

  pub unnamed_held : (document : List ℕ) (streams : List (List ℕ)) (read : Document) (name : List ℕ)
      → IsDocument (inquiry_of options document) read → first_unnamed (names_of read.predicates) wishes ≡ Some name
      → AreParts input (document ∷ streams) → IsOutcomeOfRead options wishes input (Unnamed name)
  unnamed_held document streams read name is lacks parts = record {
    bundle = parts.bundle;
    is_given = parts.is_given;
    fits = parts.fits;
    document = document;
    streams = streams;
    parts = parts.are_parts;
    holds = (read, is, lacks);
  }

  -- ---- a session

  pub session_held : (document : List ℕ) (spec : Spec) (gathered : Gathered) (report : Report) → OneDocument
      → JudgementIsTrue → HoldsSession options wishes input document spec gathered
      → IsRunReportOfResults (document_view spec) gathered.streams (results_view gathered.readings.items) report
      → IsOutcomeOfRead options wishes input (Reported report)
  session_held document spec gathered report one are_true held reported = record {
    bundle = are.are_parts.bundle;
    is_given = are.are_parts.is_given;
    fits = are.are_parts.fits;
    document = document;
    streams = are.streams;
    parts = are.are_parts.are_parts;
    holds = (
      λ read is_read.
          subst (λ (d : Document). first_unnamed (names_asked d) wishes ≡ None)
          (one inquiry (document_view spec) read held.is_document is_read) held.has_wished,
      of_run reported,
    );
  }
    where
      inquiry : Inquiry
      inquiry = inquiry_of options document

      are : AreStreams (document_view spec).names gathered.streams (results_view gathered.readings.items) input
          (document ∷ [])
      are = held.are_streams

      of_run : IsRunReportOfResults (document_view spec) gathered.streams (results_view gathered.readings.items) report
          → IsRunReport inquiry (ended_streams are.streams) report
      of_run (inl own) =
          let right : IsJudgement inquiry (ended_streams are.streams) report =
          judged_of_results inquiry (ended_streams are.streams) (document_view spec) gathered.streams
          (results_view gathered.readings.items) report held.is_document are.comes own in
          inl (right, are_true inquiry (ended_streams are.streams) report right)
      of_run (inr shared) = inr (
        document_view spec,
        shared.0,
        record {
          read = held.is_document;
          results = are.comes.given_results;
          are_results = are.comes.are_results;
          joined = sym are.comes.same_session ∙ shared.1;
        },
        shared.2,
      )

-- ---- the parts that are left

-- another part has begun
pub begun : (input left : Source) (state : State) (begins : Bool) (closed : List (List ℕ)) → begins ≡ true
    → HasParts begins input left closed state → HasCut input left closed [] state
begun input left state begins closed is has = subst (λ (b : Bool). HasParts b input left closed state) is has

-- none is left
pub none_left : (input left : Source) (state : State) (begins : Bool) (closed : List (List ℕ)) → begins ≡ false
    → HasParts begins input left closed state → (parts : List (List ℕ)) × AreParts input (closed ++ parts)
none_left input left state begins closed is has = (
  [],
  subst (AreParts input) (sym (append-nil closed))
      (subst (λ (b : Bool). HasParts b input left closed state) is has),
)

-- some are, and are read
pub rest_left : (left : Source) (state : State) (begins : Bool) → begins ≡ true
    → (result : Result (Unit {0}) BundleFault)
    → OnOk result ((input : Source) (closed : List (List ℕ)) → HasCut input left closed [] state
    → (parts : List (List ℕ)) × (0 < length parts) × AreParts input (closed ++ parts))
    → OnOk result ((input : Source) (closed : List (List ℕ)) → HasParts begins input left closed state
    → (parts : List (List ℕ)) × AreParts input (closed ++ parts))
rest_left left state begins is (Ok done) skipped = λ input closed has.
    let rest = skipped input closed (begun input left state begins closed is has) in (rest.0, rest.2)
rest_left left state begins is (Err fault) skipped = tt
