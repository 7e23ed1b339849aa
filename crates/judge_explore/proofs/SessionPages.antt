-- The page of traces, and of the streams that hold them.
use Rattle.std.proofs.Common.{◌≡◌, ℕ, List, length, sym, ap, ◌∙◌, subst, Ok, Err}
use Rattle.std.specs.Prelude.{Result, IfErr, IfOk}
use Rattle.std.specs.List.{AllZip}
use Rattle.def_model.specs.Cuts.{total}
use Rattle.def_model.specs.Events.{Computation, Place}
use Rattle.def_model.specs.Messages.{IsMessageList}
use Rattle.def_model.specs.Predicates.{Recorded}
use Rattle.def_format.specs.Documents.{Document, Inquiry, IsDocument}
use Rattle.def_format.specs.Readings.{Trace}
use Rattle.def_format.specs.Reports.{Answer, Judged, NamedPlace, Refused, Report}
use Rattle.def_format.specs.Reports as reports
use Rattle.def_format.specs.Sessions.{StreamResult, session}
use Rattle.pd_gather.specs.Views.{traces_view}
use Rattle.def_judgement.specs.Judgements.{IsAnswered, IsJudgement, IsTracesReport, events_of_traces}
use Rattle.def_judgement.specs.Writes.{Source as StreamSource}
use Rattle.def_judgement.proofs.TrueReports.{judgement_is_true_lem}
use Rattle.out_json.specs.JsonReports.{json_text_at}
use Rattle.out_page.specs.AnswerData.{Answered, Cyclic, Outcome}
use Rattle.out_page.specs.ExtraData.{Extras}
use Rattle.out_page.specs.Pages.{page_text}
use Rattle.out_page.specs.SourceData.{Source}
use Rattle.read_traces.specs.Views.{computation_view}
use Rattle.read_traces.specs.declared.event.Trace.{Trace as Read}
use Rattle.judge_session.specs.Computations.{AreWellFormed}
use Rattle.judge_session.specs.Unanswered.{IsUnanswered, refused_report}
use Rattle.judge_session.specs.declared.unanswered.Unanswered.{Unanswered}
use Rattle.judge_session.proofs.FitTraces.{same_events}
use Rattle.judge_session.proofs.SessionReports.{AreGiven, judged_of_results, of_given, traces_report}
use Rattle.pd_engine.specs.Ends.{IsGiven}
use Rattle.pd_engine.proofs.AnsweredTraces.{answers_report}
use Rattle.pd_report.specs.Views.{report_view}
use Rattle.pd_report.specs.declared.report.Report as programs
use Rattle.judge_explore.specs.Explored.{Form, IsPageOfInputs, IsPageOfTraces, Object, Page, report_with, session_text}
use Rattle.judge_explore.specs.Known.{known_by}
use Rattle.judge_explore.specs.Sources.{StreamFile, sources_of}

-- what is made of traces that make a well-formed computation, of which these are the answers of the report
pub answered_made : (document : Document) (form : Form) (sources : List Source) (traces : List Read)
    (recorded : Recorded) (count : ℕ) (pairs : List (Place × Place)) (answers : List Answer) (given : programs.Report)
    (text : List ℕ)
    → AreWellFormed document (traces_view traces) recorded count → IsMessageList (computation_view traces) pairs
    → AllZip (IsAnswered document recorded) document.predicates answers
    → report_view given ≡ Judged (length document.names) (total recorded.events) count answers
    → text ≡ session_text form document sources (traces_view traces) pairs count (Answered answers)
    → IsPageOfTraces document form sources (traces_view traces) (IsGiven (Ok given)) text
answered_made document form sources traces recorded count pairs answers given text well list answered is is_text =
    record {
      pairs = pairs;
      are_messages = subst (λ (c : Computation). IsMessageList c pairs) (same_events traces) list;
      messages = count;
      outcome = Answered answers;
      right = subst (λ (r : Recorded). IsTracesReport document (traces_view traces)
          (Judged (length document.names) (total r.events) count answers)) well.same
          (answers_report document (traces_view traces) recorded count answers well answered);
      said = sym (is ∙ ap (λ (r : Recorded). Judged (length document.names) (total r.events) count answers) well.same);
      is_text = is_text;
    }

-- the page
pub page_is : (document : Document) (extras : Extras) (sources : List Source) (traces : List Read)
    (pairs : List (Place × Place)) (messages : ℕ) (outcome : Outcome) (text : List ℕ)
    → text ≡ page_text document extras sources (computation_view traces) pairs outcome
    → text ≡ session_text (Page extras) document sources (traces_view traces) pairs messages outcome
page_is document extras sources traces pairs messages outcome text is =
    is ∙ ap (λ (c : Computation). page_text document extras sources c pairs outcome) (same_events traces)

-- the object
pub object_is : (document : Document) (sources : List Source) (traces : List Read) (recorded : Recorded) (count : ℕ)
    (pairs : List (Place × Place)) (answers : List Answer) (report : Report) (text : List ℕ)
    → AreWellFormed document (traces_view traces) recorded count
    → report ≡ Judged (length document.names) (total recorded.events) count answers
    → text ≡ json_text_at document.names (known_by document.names document.predicates sources recorded) report
    → text ≡ session_text Object document sources (traces_view traces) pairs count (Answered answers)
object_is document sources traces recorded count pairs answers report text well same is =
    is
    ∙ ap (λ (r : Report). json_text_at document.names (known_by document.names document.predicates sources recorded) r)
    same
    ∙ ap (λ (r : Recorded). json_text_at document.names (known_by document.names document.predicates sources r)
    (Judged (length document.names) (total r.events) count answers)) well.same

-- what is made of traces that are refused for a causal cycle
pub cycle_made : (document : Document) (form : Form) (sources : List Source) (traces : List Read)
    (pairs : List (Place × Place)) (places : List NamedPlace) (given : programs.Report) (text : List ℕ)
    → IsMessageList (computation_view traces) pairs
    → IsTracesReport document (traces_view traces) (Refused (reports.Cycle places))
    → report_view given ≡ Refused (reports.Cycle places)
    → text ≡ session_text form document sources (traces_view traces) pairs 0 (Cyclic places)
    → IsPageOfTraces document form sources (traces_view traces) (IsGiven (Ok given)) text
cycle_made document form sources traces pairs places given text list right is is_text = record {
  pairs = pairs;
  are_messages = subst (λ (c : Computation). IsMessageList c pairs) (same_events traces) list;
  messages = 0;
  outcome = Cyclic places;
  right = right;
  said = sym is;
  is_text = is_text;
}

-- two things that hold of what is made, if something is, give a third
pub both_made : {A E : Type 0} (result : Result A E) (P Q R : A → Type 0) → ((x : A) → P x → Q x → R x)
    → IfOk result P → IfOk result Q → IfOk result R
both_made (Ok x) P Q R go p q = go x p q
both_made (Err e) P Q R go p q = tt

-- the same of the streams that readers gave
pub inputs_page : (inquiry : Inquiry) (form : Form) (files : List StreamFile) (inputs : List StreamSource)
    (document : Document)
    (count : ℕ) (results : List StreamResult) (sources : List Source)
    (traces : List Trace) (IsSaid : Report → Type 0) (text : List ℕ)
    → IsDocument inquiry document → AreGiven document inputs count results
    → session document.names count results ≡ Ok traces
    → sources ≡ sources_of document.names files 0 (events_of_traces traces)
    → IsPageOfTraces document form sources traces IsSaid text
    → IsPageOfInputs inquiry form files inputs IsSaid text
inputs_page inquiry form files inputs document count results sources traces IsSaid text is given joined
    recorded page =
    let report : Report = report_with document traces page.messages page.outcome in
    let right : IsJudgement inquiry given.0 report =
    judged_of_results inquiry given.0 document count results report is given.2
    (traces_report document count results traces report joined page.right) in
    record {
      streams = given.0;
      are_given = given.1;
      is_page = record {
        document = document;
        traces = traces;
        held = record {
          read = is;
          results = given.2.given_results;
          are_results = given.2.are_results;
          joined = sym given.2.same_session ∙ joined;
        };
        pairs = page.pairs;
        are_messages = page.are_messages;
        messages = page.messages;
        outcome = page.outcome;
        right = right;
        truth = judgement_is_true_lem inquiry given.0 report right;
        said = page.said;
        is_text = page.is_text
            ∙ ap (λ (all : List Source). session_text form document all traces page.pairs page.messages page.outcome)
            recorded;
      };
    }

-- what holds of a refusal, if there is one
pub refused_weaker : {A : Type 0} (result : Result A Unanswered) (P Q : Report → Type 0)
    → ((report : Report) → P report → Q report) → IfErr result (IsUnanswered P) → IfErr result (IsUnanswered Q)
refused_weaker (Ok x) P Q f p = tt
refused_weaker (Err u) P Q f p = of_given (refused_report u) P Q f p
