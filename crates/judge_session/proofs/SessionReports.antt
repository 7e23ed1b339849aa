-- The report of the results that readers gave is that of the document's inquiry and of the streams that they gave.
use Rattle.std.proofs.Common.{◌≡◌, ℕ, List, sym, subst, Some, None, Option, Ok, Err}
use Rattle.std.specs.Prelude.{IfErr, IfSome, IsErrAnd, Result}
use Rattle.std.specs.List.{AllZip}
use Rattle.def_format.specs.Documents.{Document, Inquiry, IsDocument}
use Rattle.def_format.specs.Readings.{Trace}
use Rattle.def_format.specs.Reports.{Report}
use Rattle.def_format.specs.Sessions.{SessionFault, StreamResult, session}
use Rattle.pd_gather.specs.ReadStreams.{ComesTo}
use Rattle.def_judgement.specs.Judgements.{IsJudgement, IsReportOfResults, IsReportOfSession, IsTracesReport, RawStream, of_read}
use Rattle.def_judgement.specs.Writes.{IsGivenAs, Source}
use Rattle.def_judgement.proofs.WholeStreams.{all_left_unread, all_unread_given}
use Rattle.judge_session.specs.SessionReports.{IsReportOfInputs}
use Rattle.judge_session.specs.Unanswered.{IsUnanswered, refused_report}
use Rattle.judge_session.specs.declared.unanswered.Unanswered.{Unanswered}

-- what holds of a report that is given
pub of_given : {A : Type 0} (given : Option A) (P Q : A → Type 0) → ((x : A) → P x → Q x) → IfSome given P
    → IfSome given Q
of_given None P Q f p = tt
of_given (Some x) P Q f p = f x p

-- what holds of a refusal, if it is handed on
pub refusal_given : {A : Type 0} (result : Result A Unanswered) (unanswered : Unanswered) (P Q : Report → Type 0)
    → ((report : Report) → P report → Q report) → IsErrAnd result (λ u. u ≡ unanswered) → IsUnanswered P unanswered
    → IfErr result (IsUnanswered Q)
refusal_given (Ok x) unanswered P Q f same p = tt
refusal_given (Err u) unanswered P Q f same p =
    subst (IsUnanswered Q) (sym same) (of_given (refused_report unanswered) P Q f p)

-- ---- streams that are read

pub judged_of_results : (inquiry : Inquiry) (streams : List RawStream) (document : Document) (count : ℕ)
    (results : List StreamResult) (report : Report) → IsDocument inquiry document
    → ComesTo document.names streams count results → IsReportOfResults document count results report
    → IsJudgement inquiry streams report
judged_of_results inquiry streams document count results report is comes right =
    of_read document comes.given_results is comes.are_results
    (subst (λ (r : Result (List Trace) SessionFault). IsReportOfSession document r report) comes.same_session right)

-- what the readers gave comes to these results
abbrev pub AreGiven : Document → List Source → ℕ → List StreamResult → Type 0
AreGiven document inputs count results =
    (streams : List RawStream) × AllZip IsGivenAs inputs streams
    × ComesTo document.names streams count results

pub inputs_report : (inquiry : Inquiry) (inputs : List Source) (document : Document)
    (count : ℕ) (results : List StreamResult) (report : Report) → IsDocument inquiry document
    → AreGiven document inputs count results → IsReportOfResults document count results report
    → IsReportOfInputs inquiry inputs report
inputs_report inquiry inputs document count results report is given right = record {
  streams = given.0;
  are_given = given.1;
  right = judged_of_results inquiry given.0 document count results report is given.2 right;
}

-- ---- a document that is refused

pub refused_inputs_report : (inquiry : Inquiry) (inputs : List Source)
    (report : Report) → ((streams : List RawStream) → IsJudgement inquiry streams report)
    → IsReportOfInputs inquiry inputs report
refused_inputs_report inquiry inputs report any = record {
  streams = all_left_unread inputs;
  are_given = all_unread_given inputs;
  right = any (all_left_unread inputs);
}

-- the report of traces is that of the streams that make them
pub traces_report : (document : Document) (count : ℕ) (results : List StreamResult) (traces : List Trace)
    (report : Report) → session document.names count results ≡ Ok traces → IsTracesReport document traces report
    → IsReportOfResults document count results report
traces_report document count results traces report joined right =
    subst (λ (r : Result (List Trace) SessionFault). IsReportOfSession document r report) (sym joined) right
