-- The report of a document's bytes and of streams is true.
use Rattle.std.proofs.Common.{◌≡◌, true, List, length, refl, sym, ◌∙◌, Ok, subst}
use Rattle.std.specs.Prelude.{Result, Err}
use Rattle.def_model.specs.Order.{IsWellFormed}
use Rattle.def_format.specs.Readings.{Trace}
use Rattle.def_format.specs.Documents.{Document, Inquiry, IsDocument}
use Rattle.def_format.specs.Sessions.{SessionFault, StreamResult, session}
use Rattle.def_format.specs.Reports.{Report}
use Rattle.def_judgement.specs.Judgements.{RawStream, events_of_traces, AreResultsOf, IsTracesReport, of_messages, of_cycle, of_answers, IsReportOfSession, IsJudgement, of_refused, of_read}
use Rattle.def_judgement.specs.Headline.{HoldsSession, ReportAgrees, JudgementIsTrue, is_judged}
use Rattle.def_judgement.proofs.HeadlineFacts.{headline_lem, headline_beyond_width_lem, reports_agree_lem}
use Rattle.def_judgement.proofs.DocumentsAreSingle.{document_not_refused_lem}
use Rattle.def_judgement.proofs.ReportsAreSingle.{same_results_report, not_cycle, not_lawful}

-- the report of a session's judgement
of_judgement : (inquiry : Inquiry) (streams : List RawStream) (document : Document) (results : List StreamResult)
    (traces : List Trace) (report : Report) → IsDocument inquiry document → AreResultsOf document.names streams results
    → session document.names (length streams) results ≡ Ok traces → IsJudgement inquiry streams report
    → IsTracesReport document traces report
of_judgement inquiry streams document results traces report is are joined (of_refused fault refused reported) =
    absurd (document_not_refused_lem inquiry document fault is refused)
of_judgement inquiry streams document results traces report is are joined (of_read read others is' are' r) =
    subst (λ s. IsReportOfSession document s report) joined
    (same_results_report inquiry streams document read results others report is is' are are' r)

-- the report of what is read is that of the traces in it
pub of_session : (inquiry : Inquiry) (streams : List RawStream) (document : Document) (traces : List Trace)
    (report : Report) → HoldsSession inquiry streams document traces → IsJudgement inquiry streams report
    → IsTracesReport document traces report
of_session inquiry streams document traces report holds right =
    of_judgement inquiry streams document holds.results traces report holds.read holds.are_results holds.joined right

-- what is asked beside a document's bytes is asked of the document
asked_of : (inquiry : Inquiry) (document : Document) → inquiry.options.beyond_width ≡ true → IsDocument inquiry document
    → document.beyond_width ≡ true
asked_of inquiry document asked is = is.beyond_width ∙ asked

traces_judged : (document : Document) (traces : List Trace) (report : Report)
    → IsWellFormed document.version (events_of_traces traces) → IsTracesReport document traces report
    → is_judged report ≡ true
traces_judged document traces report well (of_messages fault found) =
    absurd (not_lawful document.version (events_of_traces traces) fault well.messages found)
traces_judged document traces report well (of_cycle cycle lawful found) =
    absurd (not_cycle (events_of_traces traces) cycle well.no_cycle found)
traces_judged document traces report well (of_answers messages answers formed are each) = refl

-- the report of what a session comes to agrees
pub session_agrees : (document : Document) (s : Result (List Trace) SessionFault) (report : Report)
    → IsReportOfSession document s report → ReportAgrees report
session_agrees document (Err fault) report r = subst ReportAgrees (sym r) tt
session_agrees document (Ok traces) report r = reports_agree_lem document traces report r

judgement_agrees : (inquiry : Inquiry) (streams : List RawStream) (report : Report) → IsJudgement inquiry streams report
    → ReportAgrees report
judgement_agrees inquiry streams report (of_refused fault refused reported) = subst ReportAgrees (sym reported) tt
judgement_agrees inquiry streams report (of_read document results is are r) =
    session_agrees document (session document.names (length streams) results) report r

pub judgement_is_true_lem : JudgementIsTrue
judgement_is_true_lem inquiry streams report right = record {
  agrees = judgement_agrees inquiry streams report right;
  judged = λ document traces holds well.
      traces_judged document traces report well (of_session inquiry streams document traces report holds right);
  headline = λ document traces holds well narrow.
      headline_lem document traces report well narrow (of_session inquiry streams document traces report holds right);
  headline_beyond_width = λ asked document traces holds well.
      headline_beyond_width_lem document traces report well (asked_of inquiry document asked holds.read)
      (of_session inquiry streams document traces report holds right);
}
