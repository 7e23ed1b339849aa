-- The report of a bundle that was read part by part.
use Rattle.std.proofs.Common.{◌≡◌, ℕ, List, [], ◌∷◌, refl, sym, subst, Option, Ok, Err}
use Rattle.std.specs.Prelude.{IfErr, IfOk, IfSome, IsErrAnd, Result}
use Rattle.def_judgement.specs.Writes.{Source}
use Rattle.read_bundle.specs.PartsRead.{AreStreams}
use Rattle.read_bundle.specs.Steps.{AreParts}
use Rattle.read_bundle.specs.declared.fault.BundleFault.{BundleFault}
use Rattle.read_bundle.specs.declared.fault.BundleFault.TheVariants as bundles
use Rattle.def_format.specs.Documents.{Document, IsDocument, plain}
use Rattle.def_format.specs.Reports.{Report}
use Rattle.def_format.specs.Sessions.{StreamResult}
use Rattle.def_judgement.specs.Judgements.{IsJudgement, IsReportOfParts, IsReportOfResults, RawStream, ended_streams}
use Rattle.pd_report.specs.Views.{report_view}
use Rattle.pd_report.specs.declared.report.Report.{Report as Judged}
use Rattle.judge_session.specs.Faults.{engine_bundle_fault}
use Rattle.pd_engine.specs.SessionReports.{IsReportOfRead}
use Rattle.judge_session.specs.Unanswered.{IsUnanswered, refused_report, settled_report}
use Rattle.judge_session.specs.declared.fault.EngineFault.{EngineFault}
use Rattle.judge_session.specs.declared.fault.EngineFault.TheVariants as engine
use Rattle.judge_session.specs.declared.unanswered.Unanswered.{Unanswered}
use Rattle.judge_session.proofs.SessionReports.{judged_of_results, of_given}

-- the report of the streams that were read after the document
pub streams_read : (input : Source) (bytes : List ℕ) (document : Document) (count : ℕ)
    (results : List StreamResult) (report : Report) → IsDocument (plain bytes) document
    → AreStreams document.names count results input (bytes ∷ []) → IsReportOfResults document count results report
    → IsReportOfRead input report
streams_read input bytes document count results report is are right = record {
  bundle = are.are_parts.bundle;
  is_given = are.are_parts.is_given;
  fits = are.are_parts.fits;
  right = subst (λ (all : List (List ℕ)). IsReportOfParts all report) (sym are.are_parts.are_parts)
      (judged_of_results (plain bytes) (ended_streams are.streams) document count results report
      is are.comes right);
}

-- the refusal of the document, whatever the streams are
pub refusal_read : (input : Source) (bytes : List ℕ) (streams : List (List ℕ)) (report : Report)
    → AreParts input (bytes ∷ streams) → ((all : List RawStream) → IsJudgement (plain bytes) all report)
    → IsReportOfRead input report
refusal_read input bytes streams report are any = record {
  bundle = are.bundle;
  is_given = are.is_given;
  fits = are.fits;
  right = subst (λ (all : List (List ℕ)). IsReportOfParts all report) (sym are.are_parts) (any (ended_streams streams));
}

-- what holds of a refusal holds of the report that it is settled as
pub settled_right : (report : Judged) (unanswered : Unanswered) (P : Report → Type 0)
    → settled_report (Ok report) ≡ refused_report unanswered → IsUnanswered P unanswered → P (report_view report)
settled_right report unanswered P same right = subst (λ (given : Option Report). IfSome given P) (sym same) right

-- what holds of a refusal, if it follows from what is known of it
pub refusal_weaker : {A : Type 0} (result : Result A Unanswered) (P Q : Report → Type 0)
    → ((report : Report) → P report → Q report) → IfErr result (IsUnanswered P) → IfErr result (IsUnanswered Q)
refusal_weaker (Ok x) P Q f p = tt
refusal_weaker (Err u) P Q f p = of_given (refused_report u) P Q f p

-- the same of a report that is given
pub report_weaker : {P Q : Judged → Type 0} (result : Result Judged EngineFault)
    → ((report : Judged) → P report → Q report) → IfOk result P → IfOk result Q
report_weaker (Ok report) f p = f report p
report_weaker (Err fault) f p = tt

-- a fault that is handed on, if it is reported that a read failed
pub read_handed_on : {A B : Type 0} (fault : BundleFault) (result : Result B EngineFault)
    → IsErrAnd result (λ e. e ≡ engine_bundle_fault fault) → result ≡ Err engine.Read
    → ◌≡◌ {A = Result A BundleFault} (Err fault) (Err bundles.Read)
read_handed_on bundles.Read result is reported = refl
read_handed_on bundles.Memory (Ok x) is reported = absurd is
read_handed_on bundles.Memory (Err e) is reported = cc
read_handed_on bundles.Long (Ok x) is reported = absurd is
read_handed_on bundles.Long (Err e) is reported = cc

-- a fault that is handed on, if it is reported that the bundle is too long
pub long_handed_on : {A B : Type 0} (fault : BundleFault) (result : Result B EngineFault)
    → IsErrAnd result (λ e. e ≡ engine_bundle_fault fault) → result ≡ Err engine.BundleLong
    → ◌≡◌ {A = Result A BundleFault} (Err fault) (Err bundles.Long)
long_handed_on bundles.Long result is reported = refl
long_handed_on bundles.Memory (Ok x) is reported = absurd is
long_handed_on bundles.Memory (Err e) is reported = cc
long_handed_on bundles.Read (Ok x) is reported = absurd is
long_handed_on bundles.Read (Err e) is reported = cc
