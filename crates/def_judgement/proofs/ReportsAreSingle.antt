-- A bundle has one report.
use Rattle.std.proofs.Common.{◌≡◌, ℕ, List, [], ◌∷◌, length, map, sym, ◌∙◌, ap, subst}
use Rattle.std.specs.Prelude.{Result, Ok, Err}
use Rattle.std.specs.List.{AllZip}
use Rattle.def_model.specs.Events.{Computation, Place}
use Rattle.def_model.specs.Messages.{Version, Fault, SendTwice, Orphan, SelfMessage, ReceivedTwice, IsReported, HasLawfulMessages}
use Rattle.def_model.specs.Order.{HasNoCycle, IsReportedCycle}
use Rattle.def_model.specs.Cuts.{total}
use Rattle.def_model.specs.Predicates.{Recorded}
use Rattle.def_model.proofs.OneAnswer.{one_fault}
use Rattle.def_model.proofs.Stuck.{one_cycle}
use Rattle.def_format.specs.Readings.{Trace}
use Rattle.def_format.specs.Documents.{Document, NamedPredicate, Inquiry, IsDocument, plain}
use Rattle.def_format.specs.Sessions.{SessionFault, StreamResult, session}
use Rattle.def_format.specs.Reports.{Answer, Refusal, Report, Judged, Refused, Cycle}
use Rattle.def_format.specs.Bundles.{parts_of}
use Rattle.def_judgement.specs.Judgements.{events_of_traces, recorded_of, printed_possibly, printed_definitely, IsAnswered, IsTracesReport, of_messages, of_cycle, of_answers, IsReportOfSession, IsReportOfResults, RawStream, AreResultsOf, IsJudgement, of_refused, of_read, ended_streams, IsReportOfParts, IsReportOfBundle}
use Rattle.def_format.specs.RefusalWords.{document_refusal, match_refusal, named_place}
use Rattle.def_judgement.proofs.DocumentsAreSingle.{one_document_lem, document_not_refused_lem, one_document_fault_lem}
use Rattle.def_judgement.proofs.Answered.{one_possibly, one_definitely}
use Rattle.def_judgement.proofs.ReceivedSends.{one_count}
use Rattle.def_judgement.proofs.StreamResults.{one_list_of_results_lem}
use Rattle.def_judgement.proofs.Zipped.{one_zipped}

-- ---- what can't stand together

pub not_lawful : (version : Version) (c : Computation) (fault : Fault) → HasLawfulMessages version c
    → IsReported version c fault → ⊥
not_lawful version c (SendTwice e) lawful h = lawful.sent_once e h.0
not_lawful version c (Orphan e) lawful h = lawful.received_well e h.1.0
not_lawful version c (SelfMessage e) lawful h = lawful.received_well e h.1.0
not_lawful version c (ReceivedTwice e) lawful h = lawful.received_well e h.1.0

pub not_cycle : (c : Computation) (cycle : List Place) → HasNoCycle c → IsReportedCycle c cycle → ⊥
not_cycle c cycle none h = let stuck = h.least.0.0 in none stuck.0 stuck.1

-- ---- answers

one_answer : (document : Document) (recorded : Recorded) (asked : NamedPredicate) (a b : Answer)
    → IsAnswered document recorded asked a → IsAnswered document recorded asked b → a ≡ b
one_answer document recorded asked a b p q =
    let name : a.name ≡ b.name = p.name ∙ sym q.name in
    let possibly : a.possibly ≡ b.possibly =
    p.possibly_reported ∙ (ap printed_possibly (one_possibly document recorded asked.predicate p.possibly q.possibly
    p.possibly_right q.possibly_right) ∙ sym q.possibly_reported) in
    let definitely : a.definitely ≡ b.definitely =
    p.definitely_reported ∙ (ap (printed_definitely document.names)
    (one_definitely document recorded asked.predicate p.definitely q.definitely p.definitely_right q.definitely_right)
    ∙ sym q.definitely_reported) in
    λ i. record { name = name i; possibly = possibly i; definitely = definitely i }

one_answer_each : (document : Document) (recorded : Recorded) (asked : List NamedPredicate) (a b : List Answer)
    → AllZip (IsAnswered document recorded) asked a → AllZip (IsAnswered document recorded) asked b → a ≡ b
one_answer_each document recorded = one_zipped (IsAnswered document recorded) (one_answer document recorded)

-- ---- reports

one_traces_report : (document : Document) (traces : List Trace) (a b : Report) → IsTracesReport document traces a
    → IsTracesReport document traces b → a ≡ b
one_traces_report document traces a b (of_messages f p) (of_messages g q) =
    ap (λ fault. Refused (match_refusal document.names fault))
    (one_fault document.version (events_of_traces traces) f g p q)
one_traces_report document traces a b (of_messages f p) (of_cycle cycle lawful q) =
    absurd (not_lawful document.version (events_of_traces traces) f lawful p)
one_traces_report document traces a b (of_messages f p) (of_answers messages answers well is each) =
    absurd (not_lawful document.version (events_of_traces traces) f well.messages p)
one_traces_report document traces a b (of_cycle cycle lawful p) (of_messages g q) =
    absurd (not_lawful document.version (events_of_traces traces) g lawful q)
one_traces_report document traces a b (of_cycle cycle lawful p) (of_cycle other lawful' q) =
    ap (λ places. Refused (Cycle (map (named_place document.names) places)))
    (one_cycle (events_of_traces traces) cycle other lawful.sent_once p q)
one_traces_report document traces a b (of_cycle cycle lawful p) (of_answers messages answers well is each) =
    absurd (not_cycle (events_of_traces traces) cycle well.no_cycle p)
one_traces_report document traces a b (of_answers messages answers well is each) (of_messages g q) =
    absurd (not_lawful document.version (events_of_traces traces) g well.messages q)
one_traces_report document traces a b (of_answers messages answers well is each) (of_cycle other lawful' q) =
    absurd (not_cycle (events_of_traces traces) other well.no_cycle q)
one_traces_report document traces a b (of_answers messages answers well is each)
    (of_answers messages' answers' well' is' each') =
    let counts : messages ≡ messages' = one_count (events_of_traces traces) messages messages' is is' in
    let same : answers ≡ answers' =
    one_answer_each document (recorded_of document traces) document.predicates answers answers'
    each each' in
    λ i. Judged (length document.names) (total (events_of_traces traces)) (counts i) (same i)

pub one_report_of_outcomes_lem : (document : Document) (streams : ℕ) (outcomes : List StreamResult) (a b : Report)
    → IsReportOfResults document streams outcomes a → IsReportOfResults document streams outcomes b → a ≡ b
one_report_of_outcomes_lem document streams outcomes a b = go (session document.names streams outcomes)
  where
    go : (r : Result (List Trace) SessionFault) → IsReportOfSession document r a → IsReportOfSession document r b
        → a ≡ b
    go (Err fault) p q = p ∙ sym q
    go (Ok traces) p q = one_traces_report document traces a b p q

-- a report by one reading of the document and the streams is the report by any
pub same_results_report : (inquiry : Inquiry) (streams : List RawStream) (document other : Document)
    (results others : List StreamResult) (report : Report) → IsDocument inquiry document → IsDocument inquiry other
    → AreResultsOf document.names streams results → AreResultsOf other.names streams others
    → IsReportOfResults other (length streams) others report
    → IsReportOfResults document (length streams) results report
same_results_report inquiry streams document other results others report is is' are are' r =
    let same : other ≡ document = one_document_lem inquiry other document is' is in
    let moved : AreResultsOf document.names streams others =
    subst (λ (d : Document). AreResultsOf d.names streams others) same are' in
    subst (λ (x : List StreamResult). IsReportOfResults document (length streams) x report)
    (one_list_of_results_lem document.names streams others results moved are)
    (subst (λ (d : Document). IsReportOfResults d (length streams) others report) same r)

pub one_judgement : (inquiry : Inquiry) (streams : List RawStream) (a b : Report) → IsJudgement inquiry streams a
    → IsJudgement inquiry streams b → a ≡ b
one_judgement inquiry streams a b (of_refused f p e) (of_refused g q e') =
    e ∙ (ap (λ fault. Refused (document_refusal fault)) (one_document_fault_lem inquiry f g p q) ∙ sym e')
one_judgement inquiry streams a b (of_refused f p e) (of_read document results q are r) =
    absurd (document_not_refused_lem inquiry document f q p)
one_judgement inquiry streams a b (of_read document results p are r) (of_refused g q e) =
    absurd (document_not_refused_lem inquiry document g p q)
one_judgement inquiry streams a b (of_read document results p are r) (of_read other others q are' s) =
    one_report_of_outcomes_lem document (length streams) results a b r
    (same_results_report inquiry streams document other results others b p q are are' s)

pub one_report_of_bundle_lem : (bytes : List ℕ) (a b : Report) → IsReportOfBundle bytes a → IsReportOfBundle bytes b
    → a ≡ b
one_report_of_bundle_lem bytes a b = go (parts_of bytes)
  where
    go : (parts : List (List ℕ)) → IsReportOfParts parts a → IsReportOfParts parts b → a ≡ b
    go [] p q = absurd p
    go (document ∷ streams) p q = one_judgement (plain document) (ended_streams streams) a b p q

pub not_judged_and_refused : (bytes : List ℕ) (processes events messages : ℕ) (answers : List Answer)
    (refusal : Refusal) → IsReportOfBundle bytes (Judged processes events messages answers)
    → IsReportOfBundle bytes (Refused refusal) → ⊥
not_judged_and_refused bytes processes events messages answers refusal p q =
    let same : Judged processes events messages answers ≡ Refused refusal =
    one_report_of_bundle_lem bytes (Judged processes events messages answers) (Refused refusal) p q in cc
