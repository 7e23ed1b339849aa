-- What is found of a report by the session that readers gave.
use Rattle.std.proofs.Common.{ℕ, List, sym, ap, ◌∙◌, subst}
use Rattle.def_judgement.specs.Writes.{Source}
use Rattle.def_model.specs.Events.{Computation}
use Rattle.def_model.specs.Messages.{HasMessages}
use Rattle.def_model.specs.Predicates.{Recorded}
use Rattle.def_format.specs.Documents.{Document, Inquiry}
use Rattle.def_format.specs.OtherTexts.{Finding, NotRead}
use Rattle.def_format.specs.Readings.{Trace}
use Rattle.def_format.specs.Reports.{IsNoReport, IsReport, Refusal, Refused, Report}
use Rattle.def_judgement.specs.Findings.{of_unread}
use Rattle.def_judgement.specs.Judgements.{IsTracesReport}
use Rattle.def_judgement.proofs.WholeStreams.{all_left_unread, all_unread_given}
use Rattle.judge_check.specs.Found.{IsFoundOf, IsFoundOfRefused}
use Rattle.judge_check.proofs.SessionFindings.{finding_of_refused, finding_of_session}
use Rattle.judge_draw.specs.Checks.{Finds, FindsOf}
use Rattle.judge_draw.specs.Sessions.{IsRead}
use Rattle.judge_session.specs.Computations.{AreWellFormed}
use Rattle.judge_session.specs.SessionReports.{IsReportOfInputs}
use Rattle.judge_session.proofs.SessionReports.{inputs_report, traces_report}

-- what is recorded of a well-formed session has as many messages
pub messages_counted : (document : Document) (traces : List Trace) (recorded : Recorded) (messages : ℕ)
    → AreWellFormed document traces recorded messages → HasMessages recorded.events messages
messages_counted document traces recorded messages well =
    subst (λ (c : Computation). HasMessages c messages) (ap (λ (r : Recorded). r.events) (sym well.same)) well.counted

-- a well-formed session
pub session_found : (inquiry : Inquiry) (inputs : List Source) (document : Document)
    (traces : List Trace) (recorded : Recorded) (messages : ℕ) (claimed : Report) (finding : Finding)
    → IsRead inquiry inputs document traces → AreWellFormed document traces recorded messages
    → IsFoundOf document traces messages claimed finding → FindsOf inquiry claimed inputs finding
session_found inquiry inputs document traces recorded messages claimed finding session well found =
    record {
      streams = session.streams;
      are_given = session.are_given;
      right = λ report read. finding_of_session inquiry report session.streams document traces messages claimed finding
          read
          (record {
            read = session.is_document;
            results = session.comes.given_results;
            are_results = session.comes.are_results;
            joined = sym session.comes.same_session ∙ session.joined;
            formed = well.formed;
            counted = well.counted;
          })
          found;
    }

-- a refusal of a session that was read so far
pub read_report : (inquiry : Inquiry) (inputs : List Source) (document : Document)
    (traces : List Trace) (report : Report) → IsRead inquiry inputs document traces
    → IsTracesReport document traces report → IsReportOfInputs inquiry inputs report
read_report inquiry inputs document traces report session right =
    inputs_report inquiry inputs document session.count session.results report
    session.is_document
    (session.streams, session.are_given, session.comes)
    (traces_report document session.count session.results traces report session.joined right)

-- a refused session
pub refusal_found : (inquiry : Inquiry) (inputs : List Source) (refusal : Refusal)
    (claimed : Report) (finding : Finding) → IsReportOfInputs inquiry inputs (Refused refusal)
    → IsFoundOfRefused refusal claimed finding → FindsOf inquiry claimed inputs finding
refusal_found inquiry inputs refusal claimed finding refused found = record {
  streams = refused.streams;
  are_given = refused.are_given;
  right = λ report read. finding_of_refused inquiry report refused.streams refusal claimed finding read refused.right
      found;
}

-- a report that is read
pub report_found : (inquiry : Inquiry) (report : List ℕ) (inputs : List Source) (claimed : Report)
    (finding : Finding)
    → IsReport report claimed → FindsOf inquiry claimed inputs finding
    → Finds inquiry report inputs finding
report_found inquiry report inputs claimed finding read found = record {
  streams = found.streams;
  are_given = found.are_given;
  right = found.right report read;
}

-- a report that isn't read
pub unread_found : (inquiry : Inquiry) (report : List ℕ) (inputs : List Source) (line : ℕ)
    → IsNoReport report line
    → Finds inquiry report inputs (NotRead line)
unread_found inquiry report inputs line none =
    record {
      streams = all_left_unread inputs;
      are_given = all_unread_given inputs;
      right = of_unread line none;
    }
