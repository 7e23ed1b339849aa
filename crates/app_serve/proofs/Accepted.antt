-- What is left written of streams that were accepted, by what is left written of streams with these bytes.
use Rattle.std.proofs.Common.{◌≡◌, ℕ, List, [], length, refl, sym, ap, subst, ◌∙◌, Option, true, false, arith, inl, inr}
use Rattle.std.specs.Prelude.{◌⊎◌, All, Bool, IfErr, IfOk, MatchResult, Result, Ok, Err}
use Rattle.def_format.specs.Documents.{Document, DocumentFault, IsDocument, IsRefusedDocument, Inquiry, Options, inquiry_of}
use Rattle.def_judgement.specs.OneReport.{DocumentNotRefused, OneDocument}
use Rattle.def_format.specs.Reports as formats
use Rattle.def_format.specs.Reports.{Report}
use Rattle.def_judgement.specs.Headline.{is_judged}
use Rattle.def_judgement.specs.Judgements.{IsJudgement, RawStream, of_read, of_refused}
use Rattle.app_arguments.specs.Statuses.{Ending, Success, Negative, Alarm, NoPredicate, Misuse, Failed, ComesTo, File, MemoryFailure, ReadFailure, WriteFailure, BundleFailure, NetworkFailure, HasNamed, IsTextOfAccepted, LeavesOf, OfConnections, OfNamed, OfReport}
use Rattle.app_arguments.specs.Formats.{Format}
use Rattle.app_serve.specs.Served.{IsServed, OfServed}
use Rattle.def_judgement.specs.Writes.{Source, Whole, IsAnyReport, IsRefused}
use Rattle.def_judgement.proofs.Writing.{writes_weaker}
use Rattle.app_arguments.specs.Conditions as conditions
use Rattle.judge_runs.specs.Wishes.{Condition}
use Rattle.app_arguments.specs.Conditions.{Conclusion, conclusion}
use Rattle.pd_report.specs.Views.{report_view}
use Rattle.pd_report.specs.declared.report.Report as programs
use Rattle.pd_report.specs.declared.report.Report.TheVariants.{Judged, Refused}
use Rattle.app_host.specs.Faults.{concluded_ending, is_out_of_memory, judgement_ending}
use Rattle.pd_spec.specs.Views.{IsFaultOf}
use Rattle.pd_spec.specs.declared.fault.SpecFault.{SpecFault}
use Rattle.app_serve.specs.ServiceFaults.{named_service_ending, service_ending}
use Rattle.app_serve.specs.declared.service_fault.ServiceFault.{ServiceFault}
use Rattle.app_serve.specs.declared.service_fault.ServiceFault.TheVariants.{Engine, Unkept}
use Rattle.judge_session.specs.declared.fault.EngineFault.{EngineFault}
use Rattle.judge_session.specs.declared.fault.EngineFault.TheVariants.{Memory, Write}
use Rattle.app_host.specs.FileSources.{IsReadOf, ReadLeaves, SameOutline}
use Rattle.app_host.proofs.DocumentPrefixes.{same_document, same_refusal}
use Rattle.app_host.proofs.FilesRead.{leaves_of_read, report_weaker}
use Rattle.app_serve.proofs.ServedTexts.{found_in, same_text_in, weaker_said_in}
use Rattle.app_host.proofs.NamedPredicates.{has_of_refused, named_of_file, refused_unless_memory, with_named}

-- The streams are those of accepted connections: as many as the document has processes, and none if it is refused.
pub record AreAccepted (document : Inquiry) (G : Source → Type 0) (inputs : List Source) : Type 0 where
  pub accepted : All G inputs
  pub one_each : (read : Document) → IsDocument document read → length inputs ≡ length read.names
  pub none_refused : (fault : DocumentFault) → IsRefusedDocument document fault → inputs ≡ []

-- of a document that is read
pub accepted_of_read : (document : Inquiry) (G : Source → Type 0) (inputs : List Source)
    (read : Document) → OneDocument → DocumentNotRefused → IsDocument document read → All G inputs
    → length inputs ≡ length read.names → AreAccepted document G inputs
accepted_of_read document G inputs read one not_refused is all count = record {
  accepted = all;
  one_each = λ other other_is.
      count ∙ ap (λ (d : Document). length d.names) (one document read other is other_is);
  none_refused = λ fault refused. absurd (not_refused document read fault is refused);
}

-- of a document that is refused
pub accepted_of_refused : (document : Inquiry) (G : Source → Type 0) (fault : DocumentFault)
    → DocumentNotRefused → IsRefusedDocument document fault → AreAccepted document G []
accepted_of_refused document G fault not_refused refused = record {
  accepted = λ k d lt. absurd (omega (arith, lt));
  one_each = λ read is. absurd (not_refused document read fault is refused);
  none_refused = λ other _. refl;
}

accepted_text : (format : Format) (document : Inquiry) (G : Source → Type 0) (inputs : List Source) (IsSaid : Report
    → Type 0)
    (text : List ℕ) → AreAccepted document G inputs → IsServed format document inputs IsSaid text
    → IsTextOfAccepted (IsServed format) document G IsSaid text
accepted_text format document G inputs IsSaid text are is = record {
  inputs = inputs;
  accepted = are.accepted;
  one_each = are.one_each;
  none_refused = are.none_refused;
  is_text = is;
}

-- what is left by these streams is what is to be left by accepted ones
module _ (format : Format) (fail_on : List Condition) (document : Inquiry) (G : Source → Type 0) (inputs : List Source)
    (MayNotServe IsKept : Type 0) (old new : Option (List ℕ)) (are : AreAccepted document G inputs) where
  accepted : (ending : Ending) → OfServed format inputs fail_on document ending old new
      → OfReport (IsTextOfAccepted (IsServed format) document G) fail_on ending old new
  accepted = report_weaker (IsServed format document inputs) (IsTextOfAccepted
      (IsServed format) document G) fail_on old new
      (λ IsSaid text. accepted_text format document G inputs IsSaid text are)

  pub service_of_judgement : (ending : Ending) → ReadLeaves (OfServed format inputs fail_on document) ending old new
      → ReadLeaves (OfConnections (IsServed format) G MayNotServe IsKept fail_on document) ending old new
  service_of_judgement Success left = accepted Success left
  service_of_judgement Negative left = accepted Negative left
  service_of_judgement Alarm left = accepted Alarm left
  service_of_judgement NoPredicate left = accepted NoPredicate left
  service_of_judgement Misuse left = left
  service_of_judgement (Failed MemoryFailure) left = left
  service_of_judgement (Failed ReadFailure) left = left
  service_of_judgement (Failed WriteFailure) left = inl (accepted (Failed WriteFailure) left)
  service_of_judgement (Failed BundleFailure) left = left
  service_of_judgement (Failed NetworkFailure) left = absurd left

-- ---- how a session ends

-- of accepted streams: memory ran out, or the output failed
abbrev pub IsJudgementFault : EngineFault → Type 0
IsJudgementFault fault = (fault ≡ Memory) ⊎ (fault ≡ Write)

abbrev pub IsServiceFault : ServiceFault → Type 0
IsServiceFault fault = (fault ≡ Engine Memory) ⊎ (fault ≡ Engine Write)

-- a server ends as its judgement does
pub service_faults : (end : Result programs.Report EngineFault) (result : Result programs.Report ServiceFault)
    → MatchResult end (λ report. result ≡ Ok report) (λ fault. result ≡ Err (Engine fault))
    → IfErr end IsJudgementFault → IfErr result IsServiceFault
service_faults (Ok report) result same two =
    subst (λ (r : Result programs.Report ServiceFault). IfErr r IsServiceFault) (sym same) tt
service_faults (Err fault) result same two =
    subst (λ (r : Result programs.Report ServiceFault). IfErr r IsServiceFault) (sym same) (go two)
  where
    go : IsJudgementFault fault → IsServiceFault (Engine fault)
    go (inl e) = inl (ap Engine e)
    go (inr e) = inr (ap Engine e)

pub service_outcome : (end : Result programs.Report EngineFault) (result : Result programs.Report ServiceFault)
    (P : programs.Report → Type 0)
    → MatchResult end (λ report. result ≡ Ok report) (λ fault. result ≡ Err (Engine fault))
    → IfOk end P → IfOk result P
service_outcome (Ok report) result P same holds =
    subst (λ (r : Result programs.Report ServiceFault). IfOk r P) (sym same) holds
service_outcome (Err fault) result P same holds =
    subst (λ (r : Result programs.Report ServiceFault). IfOk r P) (sym same) tt

-- the report of a refused document is its refusal
refused_report : (document : Inquiry) (streams : List RawStream) (report : Report) (fault : DocumentFault)
    → DocumentNotRefused → IsRefusedDocument document fault → IsJudgement document streams report
    → is_judged report ≡ false
refused_report document streams report fault not_refused refused (of_refused other _ e) = ap is_judged e
refused_report document streams report fault not_refused refused (of_read read results is _ _) =
    absurd (not_refused document read fault is refused)

-- a report that comes to some end is judged
concluded_is_judged : (fail_on : List Condition) (report : Report) → ComesTo fail_on conditions.Unmet report
    → is_judged report ≡ true
concluded_is_judged fail_on (formats.Judged processes events messages answers) is = refl
concluded_is_judged fail_on (formats.Refused refusal) is = cc

-- so a document that is refused isn't judged
pub refused_outcome : (format : Format) (document : Inquiry) (inputs : List Source)
    (end : Result programs.Report EngineFault)
    (old new : Option (List ℕ)) (fault : DocumentFault) → DocumentNotRefused → IsRefusedDocument document fault
    → ReadLeaves (OfServed format inputs [] document) (judgement_ending [] end) old new
    → IfOk end (λ report. is_judged (report_view report) ≡ false)
refused_outcome format document inputs (Err fault) old new refusal not_refused refused left = tt
refused_outcome format document inputs (Ok (Refused r)) old new refusal not_refused refused left = refl
refused_outcome format document inputs (Ok (Judged processes events messages answers)) old new refusal not_refused
    refused
    left =
    let found = found_in format document inputs (ComesTo [] conditions.Unmet) left.0 left.1 in
    sym (concluded_is_judged [] found.0 found.1)
    ∙ refused_report document found.2.streams found.0 refusal not_refused refused found.2.right

-- ---- a document that stands in a file

accepted_of_file : (format : Format) (options : Options) (read document : List ℕ) (G : Source → Type 0)
    (IsSaid : Report → Type 0)
    (text : List ℕ) → SameOutline options read document → IsTextOfAccepted (IsServed format)
    (inquiry_of options read) G IsSaid text
    → IsTextOfAccepted (IsServed format) (inquiry_of options document) G IsSaid text
accepted_of_file format options read document G IsSaid text same h = record {
  inputs = h.inputs;
  accepted = h.accepted;
  one_each = λ other is. h.one_each other (same_document options document read other (λ limit. sym (same limit)) is);
  none_refused = λ fault refused.
      h.none_refused fault (same_refusal options document read fault (λ limit. sym (same limit)) refused);
  is_text = same_text_in format options read document h.inputs IsSaid text same h.is_text;
}

module _ (format : Format) (options : Options) (read document : List ℕ) (G : Source → Type 0)
    (MayNotServe IsKept : Type 0)
    (fail_on : List Condition) (old new : Option (List ℕ)) (same : SameOutline options read document) where
  of_file : (ending : Ending) → OfReport (IsTextOfAccepted (IsServed format)
      (inquiry_of options read) G) fail_on ending old new
      → OfReport (IsTextOfAccepted (IsServed format) (inquiry_of options document) G) fail_on ending old new
  of_file = report_weaker (IsTextOfAccepted (IsServed format) (inquiry_of options read) G)
      (IsTextOfAccepted (IsServed format) (inquiry_of options document) G) fail_on old new
      (λ IsSaid text. accepted_of_file format options read document G IsSaid text same)

  connections_of_file : (ending : Ending)
      → OfConnections (IsServed format) G MayNotServe IsKept fail_on (inquiry_of options read) ending old new
      → OfConnections (IsServed format) G MayNotServe IsKept fail_on (inquiry_of options document) ending old new
  connections_of_file Success left = of_file Success left
  connections_of_file Negative left = of_file Negative left
  connections_of_file Alarm left = of_file Alarm left
  connections_of_file NoPredicate left = of_file NoPredicate left
  connections_of_file Misuse left = left
  connections_of_file (Failed MemoryFailure) left = left
  connections_of_file (Failed ReadFailure) left = left
  connections_of_file (Failed WriteFailure) (inl left) = inl (of_file (Failed WriteFailure) left)
  connections_of_file (Failed WriteFailure) (inr left) =
      inr (left.0, (left.1.0, same_document options read document left.1.0 same left.1.1), left.2)
  connections_of_file (Failed BundleFailure) left = left
  connections_of_file (Failed NetworkFailure) left =
      (left.0, (left.1.0, same_document options read document left.1.0 same left.1.1), left.2)

-- what is left by the bytes that were read is what is to be left by the file
pub service_of_file : (format : Format) (options : Options) (file : File) (read : List ℕ) (IsUnread : Type 0)
    (G : Source → Type 0)
    (MayNotServe IsKept : Type 0) (fail_on : List Condition) (ending : Ending) (old new : Option (List ℕ))
    → IsReadOf read file.source
    → ReadLeaves (OfNamed fail_on (OfConnections (IsServed format) G MayNotServe IsKept fail_on)
    (inquiry_of options read)) ending old new
    → LeavesOf options file IsUnread (OfNamed fail_on (OfConnections (IsServed format) G MayNotServe IsKept
    fail_on)) ending old new
service_of_file format options file read IsUnread G MayNotServe IsKept fail_on ending old new is left =
    let P = OfConnections (IsServed format) G MayNotServe IsKept fail_on in
    leaves_of_read options file read IsUnread (OfNamed fail_on P (inquiry_of options read)) (OfNamed fail_on P) old new
    is
    (λ document same. named_of_file fail_on options read document P P old new same
    (connections_of_file format options read document G MayNotServe IsKept fail_on old new same)) ending left

-- ---- a session that is kept

any_accepted : (format : Format) (document : Inquiry) (G : Source → Type 0) (IsSaid : Report → Type 0) (text : List ℕ)
    → IsTextOfAccepted (IsServed format) document G IsSaid text → IsTextOfAccepted
    (IsServed format) document G IsAnyReport text
any_accepted format document G IsSaid text h = record {
  inputs = h.inputs;
  accepted = h.accepted;
  one_each = h.one_each;
  none_refused = h.none_refused;
  is_text = weaker_said_in format document h.inputs IsSaid IsAnyReport text (λ _ _. tt) h.is_text;
}

module _ (format : Format) (document : Inquiry) (G : Source → Type 0) (MayNotServe IsKept : Type 0)
    (fail_on : List Condition)
    (old new : Option (List ℕ)) where
  abbrev Leaves : Ending → Type 0
  Leaves ending = ReadLeaves (OfConnections (IsServed format) G MayNotServe IsKept fail_on document) ending old new

  -- all of a report is written, whatever it comes to
  unkept_left : (end : Conclusion) → Leaves (concluded_ending end) → Leaves (Failed WriteFailure)
  unkept_left conditions.OfRefusal left =
      inl (inl (writes_weaker _ _ Whole old new (any_accepted format document G IsRefused) left))
  unkept_left conditions.Met left =
      inl (inl (writes_weaker _ _ Whole old new (any_accepted format document G (ComesTo fail_on conditions.Met)) left))
  unkept_left conditions.Unmet left =
      inl (inl (writes_weaker _ _ Whole old new (any_accepted format document G
      (ComesTo fail_on conditions.Unmet)) left))

  -- how a server ends whose session is kept, or isn't
  pub kept_service : (end result : Result programs.Report ServiceFault) (is_kept : Bool)
      → (is_kept ≡ true → result ≡ end)
      → (is_kept ≡ false → MatchResult end (λ _. result ≡ Err Unkept) (λ fault. result ≡ Err fault))
      → Leaves (service_ending fail_on end) → Leaves (service_ending fail_on result)
  kept_service end result true kept unkept left =
      subst (λ (r : Result programs.Report ServiceFault). Leaves (service_ending fail_on r)) (sym (kept refl)) left
  kept_service (Ok report) result false kept unkept left =
      subst (λ (r : Result programs.Report ServiceFault). Leaves (service_ending fail_on r)) (sym (unkept refl))
      (unkept_left (conclusion fail_on (report_view report)) left)
  kept_service (Err fault) result false kept unkept left =
      subst (λ (r : Result programs.Report ServiceFault). Leaves (service_ending fail_on r)) (sym (unkept refl)) left

-- ---- the predicates that are named

-- how a server ends that has them all
pub named_service : (format : Format) (document : Inquiry) (G : Source → Type 0) (MayNotServe IsKept : Type 0)
    (fail_on : List Condition)
    (end : Result programs.Report ServiceFault) (result : Result (Option programs.Report) ServiceFault)
    (old new : Option (List ℕ)) → HasNamed fail_on document
    → named_service_ending fail_on result ≡ service_ending fail_on end
    → ReadLeaves (OfConnections (IsServed format) G MayNotServe IsKept fail_on document)
    (service_ending fail_on end) old new
    → ReadLeaves (OfNamed fail_on (OfConnections (IsServed format) G MayNotServe IsKept fail_on) document)
    (named_service_ending fail_on result) old new
named_service format document G MayNotServe IsKept fail_on end result old new has same left =
    let P = OfConnections (IsServed format) G MayNotServe IsKept fail_on in
    subst (λ (e : Ending). ReadLeaves (OfNamed fail_on P document) e old new) (sym same)
    (with_named fail_on P document old new has (λ never. never) (service_ending fail_on end) left)

-- how a server ends whose document is refused, or for which memory ran out
pub refused_service : (format : Format) (document : Inquiry) (G : Source → Type 0) (MayNotServe IsKept : Type 0)
    (fail_on : List Condition) (fault : SpecFault) (end : Result programs.Report ServiceFault)
    (result : Result (Option programs.Report) ServiceFault) (old new : Option (List ℕ)) → DocumentNotRefused
    → IsFaultOf document fault → (is_out_of_memory fault ≡ true → end ≡ Err (Engine Memory))
    → named_service_ending fail_on result ≡ service_ending fail_on end
    → ReadLeaves (OfConnections (IsServed format) G MayNotServe IsKept fail_on document)
    (service_ending fail_on end) old new
    → ReadLeaves (OfNamed fail_on (OfConnections (IsServed format) G MayNotServe IsKept fail_on) document)
    (named_service_ending fail_on result) old new
refused_service format document G MayNotServe IsKept fail_on fault end result old new not_refused is_fault memory same
    left =
    go (is_out_of_memory fault) refl
  where
    go : (b : Bool) → is_out_of_memory fault ≡ b
        → ReadLeaves (OfNamed fail_on (OfConnections (IsServed format) G MayNotServe IsKept fail_on) document)
        (named_service_ending fail_on result) old new
    go true is =
        subst (λ (e : Ending). ReadLeaves (OfNamed fail_on (OfConnections
        (IsServed format) G MayNotServe IsKept fail_on) document) e
        old new) (sym (same ∙ ap (service_ending fail_on) (memory is)))
        (subst (λ (e : Result programs.Report ServiceFault). ReadLeaves (OfConnections
        (IsServed format) G MayNotServe IsKept fail_on
        document) (service_ending fail_on e) old new) (memory is) left)
    go false is =
        let refused = refused_unless_memory document fault is is_fault in
        named_service format document G MayNotServe IsKept fail_on end result old new
        (has_of_refused fail_on document refused.0 not_refused refused.1) same left
