-- What is written of a session that is explored.
use Rattle.std.specs.Prelude.{◌≡◌, ◌⊎◌, ℕ, Bool, true, false, List, [], length, Some}
use Rattle.std.specs.List.{AllZip}
use Rattle.def_model.specs.Events.{Place}
use Rattle.def_model.specs.Messages.{IsMessageList}
use Rattle.def_model.specs.Cuts.{total}
use Rattle.def_format.specs.Documents.{Document, Inquiry}
use Rattle.def_format.specs.Readings.{Trace}
use Rattle.def_format.specs.Reports.{Report, Judged, Refused, report_text}
use Rattle.def_format.specs.Reports as reports
use Rattle.def_judgement.specs.Headline.{HoldsSession, IsTrueReport, is_judged}
use Rattle.def_judgement.specs.Judgements.{IsJudgement, IsTracesReport, RawStream, events_of_traces}
use Rattle.def_judgement.specs.Writes.{IsGivenAs, Source as StreamSource}
use Rattle.out_json.specs.JsonReports.{json_text, json_text_at}
use Rattle.out_page.specs.AnswerData.{Answered, Cyclic, Outcome}
use Rattle.out_page.specs.ExtraData.{Extras}
use Rattle.out_page.specs.Pages.{page_text, refusal_page}
use Rattle.out_page.specs.SourceData.{Source}
use Rattle.judge_explore.specs.Known.{known_at}
use Rattle.judge_explore.specs.Sources.{StreamFile, sources_of}
use Rattle.judge_session.specs.SessionReports.{IsReportOfInputs}
use Rattle.judge_session.specs.Unanswered.{refused_report}
use Rattle.judge_session.specs.declared.unanswered.Unanswered.{Unanswered}
use Rattle.pd_engine.specs.SessionReports.{IsTrueReportOfInputs}

-- the report of traces of which this is shown, for a session with this many messages
abbrev pub report_with : Document → List Trace → (messages : ℕ) → Outcome → Report
report_with document traces messages (Answered answers) =
    Judged (length document.names) (total (events_of_traces traces)) messages answers
report_with document traces messages (Cyclic places) = Refused (reports.Cycle places)

-- what is made of a session: its page, with what that has beside the session; or its report as one JSON object, with
-- what is known of the report's cuts
pub data Form : Type 0 where
  Page : Extras → Form
  Object : Form

-- what is made of a session of this document, whose events were recorded in these places, with these messages, and of
-- the outcome that its report has
abbrev pub session_text : Form → Document → List Source → List Trace → List (Place × Place) → (messages : ℕ) → Outcome
    → List ℕ
session_text (Page extras) document sources traces pairs messages outcome =
    page_text document extras sources (events_of_traces traces) pairs outcome
session_text Object document sources traces pairs messages outcome =
    json_text_at document.names (known_at document sources (events_of_traces traces))
    (report_with document traces messages outcome)

-- what is made of the report of a session that is refused, and not for a causal cycle; the page has an explanation too
abbrev pub refusal_text : Form → Report → (explanation : List ℕ) → List ℕ
refusal_text (Page extras) report explanation = refusal_page (report_text report) explanation
refusal_text Object report explanation = json_text [] report

-- What is made of a session's traces: of where their events were recorded, of these, of the messages, each as its send
-- and its receipt in the order of the receipts, and of the answers of their report or the causal cycle that it names.
-- Of the report this is said.
pub record IsPageOfTraces (document : Document) (form : Form) (sources : List Source) (traces : List Trace)
    (IsSaid : Report → Type 0) (text : List ℕ) : Type 0 where
  pub pairs : List (Place × Place)
  pub are_messages : IsMessageList (events_of_traces traces) pairs
  pub messages : ℕ
  pub outcome : Outcome
  pub right : IsTracesReport document traces (report_with document traces messages outcome)
  pub said : IsSaid (report_with document traces messages outcome)
  pub is_text : text ≡ session_text form document sources traces pairs messages outcome

-- What is made of the session that a document's bytes, with what is asked beside them, and streams hold, with where
-- their events were recorded by these files; and the report of which it shows the answers or the cycle is the report of
-- the document and the streams, which is true.
pub record IsPageOf (inquiry : Inquiry) (form : Form) (files : List StreamFile) (streams : List RawStream)
    (IsSaid : Report → Type 0) (text : List ℕ) : Type 0 where
  pub document : Document
  pub traces : List Trace
  pub held : HoldsSession inquiry streams document traces
  pub pairs : List (Place × Place)
  pub are_messages : IsMessageList (events_of_traces traces) pairs
  pub messages : ℕ
  pub outcome : Outcome
  pub right : IsJudgement inquiry streams (report_with document traces messages outcome)
  pub truth : IsTrueReport inquiry streams (report_with document traces messages outcome)
  pub said : IsSaid (report_with document traces messages outcome)
  pub is_text : text ≡ session_text form document (sources_of document.names files 0 (events_of_traces traces)) traces
      pairs messages outcome

-- the same of the streams that these sources gave
pub record IsPageOfInputs (inquiry : Inquiry) (form : Form) (files : List StreamFile) (inputs : List StreamSource)
    (IsSaid : Report → Type 0) (text : List ℕ) : Type 0 where
  pub streams : List RawStream
  pub are_given : AllZip IsGivenAs inputs streams
  pub is_page : IsPageOf inquiry form files streams IsSaid text

-- whether it is a refusal for a causal cycle
abbrev pub is_cycle : Report → Bool
is_cycle (Refused (reports.Cycle places)) = true
is_cycle _ = false

-- it is a refusal, and not for a causal cycle
abbrev pub IsOtherRefusal : Report → Type 0
IsOtherRefusal report = (is_judged report ≡ false) × (is_cycle report ≡ false)

-- What is made of a session that is refused, and not for a causal cycle: of its report, which is true, and of some
-- explanation. Of the report this is said.
pub record IsRefusalPage (inquiry : Inquiry) (form : Form) (inputs : List StreamSource) (IsSaid : Report → Type 0)
    (text : List ℕ) : Type 0 where
  pub report : Report
  pub given : IsTrueReportOfInputs inquiry inputs report
  pub other : IsOtherRefusal report
  pub said : IsSaid report
  pub explanation : List ℕ
  pub is_text : text ≡ refusal_text form report explanation

-- The text that is owed of a session, with these files: its page, if it is judged, or refused for a causal cycle, which
-- the page shows; and the page of the refusal, if it is refused otherwise; or the object in place of either. Of the
-- report this is said.
abbrev pub IsOwed : (inquiry : Inquiry) (form : Form) (files : List StreamFile) (inputs : List StreamSource)
    (IsSaid : Report → Type 0) (text : List ℕ) → Type 0
IsOwed inquiry form files inputs IsSaid text =
    IsPageOfInputs inquiry form files inputs IsSaid text ⊎ IsRefusalPage inquiry form inputs IsSaid text

-- it is the report of a session that is refused, and not for a causal cycle
abbrev pub IsOwnRefusal : (inquiry : Inquiry) (inputs : List StreamSource) → Report → Type 0
IsOwnRefusal inquiry inputs report = IsReportOfInputs inquiry inputs report × (is_cycle report ≡ false)

-- it is the refusal for which a session comes to no answers, and not for a causal cycle
abbrev pub IsKept : Unanswered → Report → Type 0
IsKept unanswered report = (refused_report unanswered ≡ Some report) × (is_cycle report ≡ false)
