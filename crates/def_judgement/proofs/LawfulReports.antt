-- What is the report of anything is lawful, so it is read from its text.
use Rattle.std.proofs.Common.{◌≡◌, ℕ, suc, ◌+◌, ◌*◌, ◌<◌, ◌≤◌, List, [], ◌∷◌, length, map, refl, sym, ap, subst, ◌∙◌, length-append, arith, Some, Ok, Err}
use Rattle.std.specs.Prelude.{Result, IsTrue}
use Rattle.std.specs.List.{AllByRecursion}
use Rattle.def_model.specs.Events.{Place, first_of}
use Rattle.def_model.specs.Cuts.{total}
use Rattle.def_model.proofs.PrintedPlaces.{AreShort, cycle_events}
use Rattle.def_format.specs.Bundles.{parts_of}
use Rattle.def_format.specs.Documents.{Document, DocumentFault, Inquiry, IsRefusedDocument, HasRefusedPredicate, plain}
use Rattle.def_format.specs.Documents as documents
use Rattle.def_format.specs.Limits.{process_limit, predicate_limit, predicate_byte_limit, event_limit, stream_count_limit}
use Rattle.def_format.specs.Lists.{is_one_of}
use Rattle.def_format.specs.Names.{ProcessNames}
use Rattle.def_format.specs.PredicateTexts.{PredicateFault}
use Rattle.def_format.specs.PredicateTexts as predicates
use Rattle.def_format.specs.ReadingLaws.{FitsSession}
use Rattle.def_format.specs.Readings.{StreamKind, LineTooLong, StreamTooLong, InRecord, TooManyEvents, Unended, ReadFailed, Trace}
use Rattle.def_format.specs.Records as records
use Rattle.def_format.specs.RefusalWords.{predicate_word, document_refusal, stream_word, session_refusal, named_place}
use Rattle.def_format.specs.Reports.{Report, IsLawful, RefusalIsLawful, predicate_words, stream_words}
use Rattle.def_format.specs.Sessions.{SessionFault, TooManyStreams, Stream, Taken, Absent, StreamResult, session}
use Rattle.def_format.proofs.DocumentNames.{sound_is_faultless}
use Rattle.def_format.proofs.DocumentParts.{HasName, HasLawfulParts, lawful_parts, process_is_named, within}
use Rattle.def_format.proofs.FaultLines.{last_line, result_is_up_to}
use Rattle.def_format.proofs.FaultPlaces.{fault_is_within}
use Rattle.def_format.proofs.Faultless.{faultless}
use Rattle.def_format.proofs.SessionFaults.{ResultFits, FaultFits, session_fault_fits, session_traces_fit, few_streams}
use Rattle.def_format.proofs.TraceFits.{traces_fit_lem}
use Rattle.def_judgement.specs.Judgements.{IsTracesReport, of_messages, of_cycle, of_answers, IsReportOfSession, IsReportOfResults, RawStream, IsResultOf, AreResultsOf, of_refused, of_read, ended_streams, IsReportOfParts, events_of_traces, recorded_of}
use Rattle.def_judgement.specs.LawfulReports.{JudgementIsLawful, ReportIsLawful}
use Rattle.def_judgement.proofs.LawfulAnswers.{IsSmall, small_total, few_messages, fault_is_lawful, places_are_lawful, answers_are_lawful}
use Rattle.def_judgement.proofs.StreamResults.{as_many_results}

-- ---- documents

predicate_is_lawful : (inquiry : Inquiry) (number at : ℕ) (fault : PredicateFault)
    → HasRefusedPredicate process_limit inquiry number fault at
    → RefusalIsLawful (document_refusal (documents.InPredicate number fault at))
predicate_is_lawful inquiry number at fault refused =
    let clear = faultless process_limit refused.outline
    (sound_is_faultless process_limit inquiry refused.outline refused.sound) in
    let few : length refused.outline.predicates ≤ predicate_limit =
    (within 1 predicate_limit (length refused.outline.predicates) clear.predicates).1 in
    let l : length refused.outline.predicates ≡ length refused.before + suc (length refused.after) =
    ap length refused.parts ∙ length-append refused.before (refused.refused ∷ refused.after) in
    let n : number ≡ length refused.before + 1 = refused.place in
    let a : at ≤ predicate_byte_limit + 1 = fault_is_within _ refused.refused.1 fault at refused.stands in
    (omega arith, omega arith, word fault, omega arith)
  where
    word : (f : PredicateFault) → IsTrue (is_one_of predicate_words (predicate_word f))
    word predicates.Long = refl
    word predicates.Character = refl
    word predicates.Number = refl
    word predicates.Expected = refl
    word predicates.UnknownName = refl
    word predicates.Depth = refl

document_is_lawful : (inquiry : Inquiry) (fault : DocumentFault) → IsRefusedDocument inquiry fault
    → RefusalIsLawful (document_refusal fault)
document_is_lawful inquiry documents.Long refused = refl
document_is_lawful inquiry documents.Json refused = refl
document_is_lawful inquiry documents.Shape refused = refl
document_is_lawful inquiry documents.Processes refused = refl
document_is_lawful inquiry documents.Name refused = refl
document_is_lawful inquiry documents.NameTwice refused = refl
document_is_lawful inquiry documents.Vars refused = refl
document_is_lawful inquiry documents.Predicates refused = refl
document_is_lawful inquiry documents.Width refused = refl
document_is_lawful inquiry documents.OtherVersion refused = refl
document_is_lawful inquiry (documents.InPredicate number fault at) refused =
    predicate_is_lawful inquiry number at fault refused

-- ---- sessions

results_fit : (names : List ProcessNames) (streams : List RawStream) (results : List StreamResult)
    → AreResultsOf names streams results → AllByRecursion (ResultFits names) results
results_fit names [] [] are = tt
results_fit names [] (r ∷ results) are = absurd are
results_fit names (s ∷ streams) [] are = absurd are
results_fit names (s ∷ streams) (r ∷ results) are = (one r are.0, results_fit names streams results are.1)
  where
    one : (r : StreamResult) → IsResultOf names s r → ResultFits names r
    one (Ok trace) is =
        (traces_fit_lem names s.ending s.bytes trace is, result_is_up_to names s.ending s.bytes (Ok trace) is)
    one (Err fault) is = result_is_up_to names s.ending s.bytes (Err fault) is

stream_word_is_lawful : (kind : StreamKind) → IsTrue (is_one_of stream_words (stream_word kind))
stream_word_is_lawful LineTooLong = refl
stream_word_is_lawful StreamTooLong = refl
stream_word_is_lawful (InRecord records.Json) = refl
stream_word_is_lawful (InRecord records.Shape) = refl
stream_word_is_lawful (InRecord records.Join) = refl
stream_word_is_lawful (InRecord records.UnknownProcess) = refl
stream_word_is_lawful (InRecord records.UnknownVar) = refl
stream_word_is_lawful (InRecord records.Value) = refl
stream_word_is_lawful (InRecord records.MessageId) = refl
stream_word_is_lawful TooManyEvents = refl
stream_word_is_lawful Unended = refl
stream_word_is_lawful ReadFailed = refl

session_fault_is_lawful : (names : List ProcessNames) (streams : ℕ) (results : List StreamResult)
    (fault : SessionFault) → AllByRecursion HasName names → length results ≡ streams
    → AllByRecursion (ResultFits names) results → session names streams results ≡ Err fault
    → RefusalIsLawful (session_refusal names fault)
session_fault_is_lawful names streams results fault named same fit e =
    go fault (session_fault_fits names streams results fault fit e)
    (few_streams names streams results fault e)
  where
    go : (f : SessionFault) → FaultFits (length results) (length names) f
        → ((f ≡ TooManyStreams → ⊥) → streams ≤ stream_count_limit) → RefusalIsLawful (session_refusal names f)
    go TooManyStreams fits few = tt
    go (Stream stream fault) fits few =
        let n : streams ≤ stream_count_limit = few (λ h. cc) in
        let lt : stream < length results = fits.0 in
        let le : fault.line ≤ last_line = fits.1 in
        (omega arith, omega arith, stream_word_is_lawful fault.kind)
    go (Taken stream line) fits few =
        let n : streams ≤ stream_count_limit = few (λ h. cc) in
        let lt : stream < length results = fits.0 in
        let le : line ≤ last_line = fits.1 in
        (omega arith, omega arith, refl)
    go (Absent process) fits few = process_is_named names process named fits

-- ---- traces

traces_are_short : (names : List ProcessNames) (traces : List Trace) → AllByRecursion (FitsSession names) traces
    → AreShort event_limit (events_of_traces traces)
traces_are_short names [] fit = tt
traces_are_short names (trace ∷ traces) fit = (fit.0.few_events, traces_are_short names traces fit.1)

some_place : (cycle : List Place) (start : Place) → first_of cycle ≡ Some start → 0 < length cycle
some_place [] start e = absurd (cc)
some_place (e ∷ cycle) start same = omega arith

traces_report_is_lawful : (document : Document) (traces : List Trace) (report : Report) → HasLawfulParts document
    → IsSmall document.names (events_of_traces traces) → IsTracesReport document traces report → IsLawful report
traces_report_is_lawful document traces report parts small (of_messages fault r) =
    fault_is_lawful document.names document.version (events_of_traces traces) fault small r
traces_report_is_lawful document traces report parts small (of_cycle cycle lawful r) =
    let some : 0 < length cycle = some_place cycle r.start r.starts in
    let l : length (map (named_place document.names) cycle) ≡ length cycle = map_length cycle in (
      omega arith,
      places_are_lawful document.names (events_of_traces traces) cycle small
          (cycle_events (events_of_traces traces) cycle r),
    )
  where
    map_length : (places : List Place) → length (map (named_place document.names) places) ≡ length places
    map_length [] = refl
    map_length (e ∷ places) = ap suc (map_length places)
traces_report_is_lawful document traces report parts small (of_answers messages answers well are answered) =
    let a = answers_are_lawful document (recorded_of document traces) document.predicates answers well.no_cycle small
    parts.asked answered in
    let t : total (events_of_traces traces) ≤ process_limit * event_limit =
    small_total document.names (events_of_traces traces) small in
    let m : messages ≤ process_limit * (event_limit + 1) =
    few_messages document.names (events_of_traces traces) messages small are in
    let n : length document.names ≤ process_limit = parts.few_processes in
    let same : length answers ≡ length document.predicates = a.0 in
    let some : 1 ≤ length document.predicates = parts.some_predicate in
    let few : length document.predicates ≤ predicate_limit = parts.few_predicates in
    (omega arith, omega arith, omega arith, omega arith, omega arith, a.1)

-- ---- reports

results_report_is_lawful : (document : Document) (streams : List RawStream) (results : List StreamResult)
    (report : Report) → HasLawfulParts document → AreResultsOf document.names streams results
    → IsReportOfResults document (length streams) results report → IsLawful report
results_report_is_lawful document streams results report parts are r =
    go (session document.names (length streams) results) refl r
  where
    fit : AllByRecursion (ResultFits document.names) results
    fit = results_fit document.names streams results are

    go : (s : Result (List Trace) SessionFault) → session document.names (length streams) results ≡ s
        → IsReportOfSession document s report → IsLawful report
    go (Err fault) e is =
        subst IsLawful (sym is) (session_fault_is_lawful document.names (length streams) results fault parts.named
        (as_many_results document.names streams results are) fit e)
    go (Ok traces) e is =
        let f = session_traces_fit document.names (length streams) results traces fit e in
        traces_report_is_lawful document traces report parts (record {
          named = parts.named;
          one_each = events_length traces ∙ f.0;
          some_process = parts.some_process;
          few_processes = parts.few_processes;
          short = traces_are_short document.names traces f.1;
        }) is
      where
        events_length : (t : List Trace) → length (events_of_traces t) ≡ length t
        events_length [] = refl
        events_length (x ∷ t) = ap suc (events_length t)

pub judgement_is_lawful : JudgementIsLawful
judgement_is_lawful inquiry streams report (of_refused fault refused reported) =
    subst IsLawful (sym reported) (document_is_lawful inquiry fault refused)
judgement_is_lawful inquiry streams report (of_read document results is are r) =
    results_report_is_lawful document streams results report (lawful_parts inquiry document is) are r

pub report_is_lawful_lem : ReportIsLawful
report_is_lawful_lem bytes report = go (parts_of bytes)
  where
    go : (parts : List (List ℕ)) → IsReportOfParts parts report → IsLawful report
    go [] r = absurd r
    go (document ∷ streams) r = judgement_is_lawful (plain document) (ended_streams streams) report r
