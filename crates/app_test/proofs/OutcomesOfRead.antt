-- What comes of a run by the bytes that were read of its document comes of it by the document's file.
use Rattle.std.proofs.Common.{◌≡◌, ℕ, List, [], ◌∷◌, map, None, Ok, Err, ap, inl, inr, refl, sym, subst, ◌∙◌}
use Rattle.std.specs.Prelude.{IfOk, Result}
use Rattle.std.specs.List.{AllZip}
use Rattle.def_format.specs.Documents.{Document, DocumentFault, Inquiry, IsDocument, IsRefusedDocument, Options, inquiry_of, outline_within}
use Rattle.def_format.specs.Reports.{Report}
use Rattle.def_judgement.specs.OneReport.{DocumentNotRefused, OneDocument}
use Rattle.def_judgement.specs.Writes.{Source}
use Rattle.app_arguments.specs.Statuses.{File, MayBeUnread, OfDocument, sources_of}
use Rattle.judge_runs.specs.Runs.{Outcome, Reported, Unnamed, Unread}
use Rattle.judge_runs.specs.Views.{outcome_view}
use Rattle.judge_runs.specs.Wishes.{Condition, first_unnamed, names_of}
use Rattle.judge_runs.specs.declared.outcome.Outcome as outcomes
use Rattle.judge_session.specs.declared.fault.EngineFault.{EngineFault}
use Rattle.judge_session.specs.declared.fault.EngineFault.TheVariants.{Read}
use Rattle.def_judgement.specs.Judgements.{RawStream}
use Rattle.judge_shared.specs.SharedReports.{IsRunReport, IsRunReportOfInputs}
use Rattle.app_host.specs.FileSources.{IsReadOf, Knows}
use Rattle.app_host.proofs.DocumentPrefixes.{same_document, same_judgement, same_refusal, same_truth}
use Rattle.app_host.proofs.FilesRead.{given_as_files, of_document}
use Rattle.app_test.specs.Jobs.{IsFolderJob, IsReadJob}
use Rattle.app_test.specs.Tests.{IsOutcomeOfFolder, IsReadOutcome, IsReportOfInquiry, document_in, streams_in}
use Rattle.app_test.specs.declared.job.Job.{Job}

-- ---- the whole document

-- an inquiry of the whole document has the outline of that of the bytes that were read
abbrev HasOutlineOf : Options → (read : List ℕ) → Inquiry → Type 0
HasOutlineOf options read inquiry =
    (limit : ℕ) → outline_within limit (inquiry_of options read) ≡ outline_within limit inquiry

whole_document : (options : Options) (file : File) (read : List ℕ) → IsReadOf read file.source
    → OfDocument options file (HasOutlineOf options read)
whole_document options file read is =
    of_document options file read (Unit {0}) (HasOutlineOf options read) is (λ document same _. same) tt

-- so is the report of a run
same_run_report : (options : Options) (read bytes : List ℕ) (streams : List RawStream) (report : Report)
    → HasOutlineOf options read (inquiry_of options bytes) → IsRunReport (inquiry_of options read) streams report
    → IsRunReport (inquiry_of options bytes) streams report
same_run_report options read bytes streams report same (inl own) =
    inl (
      same_judgement options read bytes streams report same own.0,
      same_truth options read bytes streams report same own.1,
    )
same_run_report options read bytes streams report same (inr (document, traces, holds, shared)) =
    inr (
      document,
      traces,
      record {
        read = same_document options read bytes document same holds.read;
        results = holds.results;
        are_results = holds.are_results;
        joined = holds.joined;
      },
      shared,
    )

-- what comes of a run by the bytes that were read comes of it by all bytes
moved : (files : List ℕ → File) (options : Options) (wishes : List Condition) (folder read bytes : List ℕ)
    → HasOutlineOf options read (inquiry_of options bytes) → (outcome : Outcome)
    → IsReadOutcome files wishes folder (inquiry_of options read) outcome
    → IsReadOutcome files wishes folder (inquiry_of options bytes) outcome
moved files options wishes folder read bytes same (Unread file) found = (
  found.0,
  same_document options read bytes found.0 same found.1,
  found.2,
  found.3,
  found.4,
  found.5,
  found.6,
  found.7,
)
moved files options wishes folder read bytes same (Unnamed name) found =
    (found.0, same_document options read bytes found.0 same found.1, found.2)
moved files options wishes folder read bytes same (Reported report) found = record {
  inputs = found.inputs;
  of_document = λ document is_document.
      found.of_document document (same_document options bytes read document (λ limit. sym (same limit)) is_document);
  of_refused = λ fault refused.
      found.of_refused fault (same_refusal options bytes read fault (λ limit. sym (same limit)) refused);
  given = record {
    streams = found.given.streams;
    are_given = found.given.are_given;
    is_report = same_run_report options read bytes found.given.streams report same found.given.is_report;
  };
}

outcome_of_read : (files : List ℕ → File) (options : Options) (wishes : List Condition) (folder read : List ℕ)
    → IsReadOf read (files (document_in folder)).source → (outcome : Outcome)
    → IsReadOutcome files wishes folder (inquiry_of options read) outcome
    → IsOutcomeOfFolder files options wishes folder outcome
outcome_of_read files options wishes folder read is outcome found =
    let all = whole_document options (files (document_in folder)) read is in
    inr (record {
      bytes = all.bytes;
      whole = all.whole;
      holds = moved files options wishes folder read all.bytes all.holds outcome found;
    })

-- whatever comes of a job by the bytes that were read comes of it by the file
pub jobs_of_read : {F : Type 0} (files : List ℕ → File) (options : Options) (wishes : List Condition)
    (folder read : List ℕ) → IsReadOf read (files (document_in folder)).source → (left : F → Source)
    → (result : Result (Job F) EngineFault) → IfOk result (IsReadJob left files options wishes folder read)
    → IfOk result (IsFolderJob left files options wishes folder)
jobs_of_read files options wishes folder read is left (Ok job) found =
    λ outcome given. outcome_of_read files options wishes folder read is outcome (found outcome given)
jobs_of_read files options wishes folder read is left (Err fault) found = tt

-- what comes of a run whose document can't be read
pub unread_document : (files : List ℕ → File) (options : Options) (wishes : List Condition)
    (folder path : List ℕ) (fault : EngineFault) → path ≡ document_in folder
    → (fault ≡ Read → MayBeUnread (files path ∷ []) (files path ∷ [])) → (known : outcomes.Outcome)
    → (fault ≡ Read) × (outcome_view known ≡ Unread path)
    → (outcome : Outcome) → outcome ≡ outcome_view known → IsOutcomeOfFolder files options wishes folder outcome
unread_document files options wishes folder path fault same unread known found outcome is =
    subst (λ (o : Outcome). IsOutcomeOfFolder files options wishes folder o) (sym (is ∙ found.1))
    (subst (λ (p : List ℕ). IsOutcomeOfFolder files options wishes folder (Unread p)) (sym same)
    (inl (refl, subst (λ (p : List ℕ). MayBeUnread (files p ∷ []) (files p ∷ [])) same (unread found.0))))

-- ---- the report of an inquiry

-- of the document that is read, and of its streams' files
report_of_document : (files : List ℕ → File) (wishes : List Condition) (folder : List ℕ) (inquiry : Inquiry)
    (document : Document) (lefts : List Source) (report : Report) → OneDocument → DocumentNotRefused
    → IsDocument inquiry document → first_unnamed (names_of document.predicates) wishes ≡ None
    → AllZip Knows (sources_of (map files (streams_in folder document.names))) lefts
    → IsRunReportOfInputs inquiry lefts report → IsReportOfInquiry files wishes folder inquiry report
report_of_document files wishes folder inquiry document lefts report one not_refused is named known given = record {
  inputs = sources_of (map files (streams_in folder document.names));
  of_document = λ other is_other.
      let same : document ≡ other = one inquiry document other is is_other in (
        subst (λ (d : Document). first_unnamed (names_of d.predicates) wishes ≡ None) same named,
        ap (λ (d : Document). sources_of (map files (streams_in folder d.names))) same,
      );
  of_refused = λ fault refused. absurd (not_refused inquiry document fault is refused);
  given = record {
    streams = given.streams;
    are_given = given_as_files _ lefts given.streams known given.are_given;
    is_report = given.is_report;
  };
}

-- of a document that is refused
report_of_refused : {F : Type 0} (files : List ℕ → File) (wishes : List Condition) (folder : List ℕ)
    (inquiry : Inquiry) (fault : DocumentFault) (left : F → Source) (streams : List F) (report : Report)
    → DocumentNotRefused → IsRefusedDocument inquiry fault → streams ≡ []
    → IsRunReportOfInputs inquiry (map left streams) report
    → IsReportOfInquiry files wishes folder inquiry report
report_of_refused files wishes folder inquiry fault left streams report not_refused refused none given = record {
  inputs = [];
  of_document = λ document is. absurd (not_refused inquiry document fault is refused);
  of_refused = λ other _. refl;
  given = subst (λ items. IsRunReportOfInputs inquiry (map left items) report) none given;
}

-- ---- what is left to do

module _ {F : Type 0} (files : List ℕ → File) (options : Options) (wishes : List Condition) (folder bytes : List ℕ)
    (left : F → Source) (streams : List F) where
  -- of a document that is refused
  pub refused_is_read : (fault : DocumentFault) → DocumentNotRefused
      → IsRefusedDocument (inquiry_of options bytes) fault → streams ≡ [] → (outcome : Outcome)
      → (report : Report) × (outcome ≡ Reported report)
      × IsRunReportOfInputs (inquiry_of options bytes) (map left streams) report
      → IsReadOutcome files wishes folder (inquiry_of options bytes) outcome
  refused_is_read fault not_refused refused none outcome given =
      subst (λ (o : Outcome). IsReadOutcome files wishes folder (inquiry_of options bytes) o) (sym given.1)
      (report_of_refused files wishes folder (inquiry_of options bytes) fault left streams given.0 not_refused refused
      none given.2)

  -- of a document that has each predicate that is wished for
  pub document_is_read : (document : Document) → OneDocument → DocumentNotRefused
      → IsDocument (inquiry_of options bytes) document
      → first_unnamed (names_of document.predicates) wishes ≡ None
      → AllZip Knows (sources_of (map files (streams_in folder document.names))) (map left streams)
      → (outcome : Outcome) → (report : Report) × (outcome ≡ Reported report)
      × IsRunReportOfInputs (inquiry_of options bytes) (map left streams) report
      → IsReadOutcome files wishes folder (inquiry_of options bytes) outcome
  document_is_read document one not_refused is named known outcome given =
      subst (λ (o : Outcome). IsReadOutcome files wishes folder (inquiry_of options bytes) o) (sym given.1)
      (report_of_document files wishes folder (inquiry_of options bytes) document (map left streams) given.0 one
      not_refused is named known given.2)
