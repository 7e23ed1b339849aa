-- What is written of a session is what is owed.
use Rattle.std.proofs.Common.{◌≡◌, ℕ, List, refl, sym, subst, inl, inr, Ok, Err, Option}
use Rattle.std.specs.Prelude.{Result, IfOk, IfSome}
use Rattle.def_format.specs.Documents.{Inquiry}
use Rattle.def_format.specs.Reports as reports
use Rattle.def_format.specs.Reports.{Refusal, Refused}
use Rattle.def_judgement.specs.Writes.{Whole, Writes, Source as StreamSource}
use Rattle.def_judgement.proofs.TrueReports.{judgement_is_true_lem}
use Rattle.def_judgement.proofs.Writing.{writes_weaker}
use Rattle.pd_report.specs.declared.report.Report.{Report}
use Rattle.judge_session.specs.Ends.{call_end, fault_end}
use Rattle.judge_session.specs.SessionReports.{IsReportOfInputs}
use Rattle.judge_session.specs.Unanswered.{IsUnanswered, refused_report}
use Rattle.judge_session.specs.declared.fault.EngineFault.{EngineFault}
use Rattle.judge_session.specs.declared.unanswered.Unanswered.{Unanswered}
use Rattle.judge_session.proofs.SessionReports.{of_given}
use Rattle.pd_engine.specs.Ends.{IsGiven}
use Rattle.judge_explore.specs.Explored.{Form, IsKept, IsOwed, IsOwnRefusal, IsPageOfInputs, IsRefusalPage, refusal_text, report_with}
use Rattle.judge_explore.specs.Sources.{StreamFile}

-- what is said of the report, or what follows from that
page_weaker : (inquiry : Inquiry) (form : Form) (files : List StreamFile) (inputs : List StreamSource)
    (P Q : reports.Report → Type 0) (text : List ℕ)
    → ((report : reports.Report) → P report → Q report)
    → IsPageOfInputs inquiry form files inputs P text → IsPageOfInputs inquiry form files inputs Q text
page_weaker inquiry form files inputs P Q text go h = record {
  streams = h.streams;
  are_given = h.are_given;
  is_page = record {
    document = h.is_page.document;
    traces = h.is_page.traces;
    held = h.is_page.held;
    pairs = h.is_page.pairs;
    are_messages = h.is_page.are_messages;
    messages = h.is_page.messages;
    outcome = h.is_page.outcome;
    right = h.is_page.right;
    truth = h.is_page.truth;
    said = go (report_with h.is_page.document h.is_page.traces h.is_page.messages h.is_page.outcome) h.is_page.said;
    is_text = h.is_page.is_text;
  };
}

refusal_weaker : (inquiry : Inquiry) (form : Form) (inputs : List StreamSource) (P Q : reports.Report → Type 0)
    (text : List ℕ) → ((report : reports.Report) → P report → Q report)
    → IsRefusalPage inquiry form inputs P text → IsRefusalPage inquiry form inputs Q text
refusal_weaker inquiry form inputs P Q text go h = record {
  report = h.report;
  given = h.given;
  other = h.other;
  said = go h.report h.said;
  explanation = h.explanation;
  is_text = h.is_text;
}

pub owed_weaker : (inquiry : Inquiry) (form : Form) (files : List StreamFile) (inputs : List StreamSource)
    (P Q : reports.Report → Type 0) (text : List ℕ) → ((report : reports.Report) → P report → Q report)
    → IsOwed inquiry form files inputs P text → IsOwed inquiry form files inputs Q text
owed_weaker inquiry form files inputs P Q text go (inl page) =
    inl (page_weaker inquiry form files inputs P Q text go page)
owed_weaker inquiry form files inputs P Q text go (inr refusal) =
    inr (refusal_weaker inquiry form inputs P Q text go refusal)

-- the page, of which the report is given
pub page_written : (inquiry : Inquiry) (form : Form) (files : List StreamFile) (inputs : List StreamSource)
    (page : List ℕ) (shown : Report) (result : Result Report EngineFault) (old new : Option (List ℕ))
    → IsOwed inquiry form files inputs (IsGiven (Ok shown)) page
    → IfOk result (λ report. report ≡ shown)
    → Writes (λ (text : List ℕ). text ≡ page) (call_end result) old new
    → Writes (IsOwed inquiry form files inputs (IsGiven result)) (call_end result) old new
page_written inquiry form files inputs page shown (Ok report) old new right same written =
    let Owed : List ℕ → Type 0 = IsOwed inquiry form files inputs (IsGiven (Ok report)) in
    writes_weaker (λ (text : List ℕ). text ≡ page) Owed Whole old new
    (λ text is. subst Owed (sym is)
    (subst (λ (r : Report). IsOwed inquiry form files inputs (IsGiven (Ok r)) page) (sym same) right)) written
page_written inquiry form files inputs page shown (Err fault) old new right same written =
    let Owed : List ℕ → Type 0 = IsOwed inquiry form files inputs (IsGiven (Err fault)) in
    writes_weaker (λ (text : List ℕ). text ≡ page) Owed (fault_end fault) old new
    (λ text is. subst Owed (sym is)
    (owed_weaker inquiry form files inputs (IsGiven (Ok shown)) (IsGiven (Err fault)) page (λ _ _. tt) right))
    written

-- what is made of a refusal, of which the report is given
pub refusal_owed : (inquiry : Inquiry) (form : Form) (files : List StreamFile) (inputs : List StreamSource)
    (refusal : Refusal) (IsSaid : reports.Report → Type 0) (explanation text : List ℕ)
    → IsOwnRefusal inquiry inputs (Refused refusal) → IsSaid (Refused refusal)
    → text ≡ refusal_text form (Refused refusal) explanation → IsOwed inquiry form files inputs IsSaid text
refusal_owed inquiry form files inputs refusal IsSaid explanation text own said is =
    inr (record {
      report = Refused refusal;
      given = record {
        streams = own.0.streams;
        are_given = own.0.are_given;
        right = own.0.right;
        truth = judgement_is_true_lem inquiry own.0.streams (Refused refusal) own.0.right;
      };
      other = (refl, own.1);
      said = said;
      explanation = explanation;
      is_text = is;
    })

-- a refusal that is kept is that of the session
pub kept_refusal : (inquiry : Inquiry) (inputs : List StreamSource) (unanswered kept : Unanswered)
    → IsUnanswered (IsReportOfInputs inquiry inputs) unanswered → IsUnanswered (IsKept unanswered) kept
    → IsUnanswered (IsOwnRefusal inquiry inputs) kept
kept_refusal inquiry inputs unanswered kept right is =
    of_given (refused_report kept) (IsKept unanswered) (IsOwnRefusal inquiry inputs)
    (λ report same. (
      subst (λ (given : Option reports.Report). IfSome given (IsReportOfInputs inquiry inputs)) same.0
          right,
      same.1,
    )) is
