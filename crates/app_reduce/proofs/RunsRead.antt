-- What comes of a run by what its streams come to.
use Rattle.std.proofs.Common.{◌≡◌, ℕ, suc, ◌≤◌, Bool, true, false, List, [], ◌∷◌, length, refl, sym, ap, subst, ◌∙◌, arith, Some, None, Option, Ok, Err, Result, inl, inr, codes}
use Rattle.std.specs.Prelude.{nat_lt, ◌++◌}
use Rattle.std.specs.List.{AllZip}
use Rattle.std.proofs.lemmas.List.{length-map}
use Rattle.def_format.proofs.DocumentNames.{sound_is_faultless}
use Rattle.def_format.proofs.DocumentParts.{within}
use Rattle.def_format.proofs.Faultless.{faultless}
use Rattle.def_format.specs.Documents.{Document, Inquiry, IsDocumentWithin}
use Rattle.def_format.specs.Names.{ProcessNames}
use Rattle.def_format.specs.Readings.{Trace}
use Rattle.def_format.specs.Reports as reports
use Rattle.def_format.specs.Reports.{report_text}
use Rattle.def_format.specs.Sessions.{SessionFault, StreamResult, first_stream_fault, session_within, trace_of, traces_from}
use Rattle.def_judgement.specs.Judgements.{IsReportOfSession, events_of_traces, recorded_of}
use Rattle.def_judgement.specs.Writes.{IsWholeInput, Source}
use Rattle.def_model.specs.Order.{IsWellFormed}
use Rattle.def_recordings.specs.Recordings.{AreRecordedResults, IsRun, of_streams, recorded_process_limit, recorded_stream_limit}
use Rattle.judge_recordings.specs.Runs.{IsRunOf}
use Rattle.judge_recordings.specs.declared.recordings.RecordedRun.{RecordedRun}
use Rattle.judge_session.specs.Unanswered.{IsUnanswered}
use Rattle.judge_session.specs.declared.unanswered.Unanswered.{Unanswered}
use Rattle.judge_session.specs.declared.unanswered.Unanswered.TheVariants.{Memory, Refused}
use Rattle.pd_report.specs.Views.{refusal_view, report_view}
use Rattle.app_reduce.specs.Outcomes.{AreTracesOf, ComesOf, ComesOfRun, ComesTo, HasCounts, IsRefusal, IsRefusedBy, line_of}
use Rattle.app_reduce.specs.ReducedTexts.{IsRefusedText, IsRunLine, IsUnmadeText, OfStreams}
use Rattle.app_reduce.specs.declared.counts.Counts.{Counts}
use Rattle.app_reduce.specs.declared.outcome.Outcome.{Outcome}
use Rattle.app_reduce.specs.declared.outcome.Outcome.TheVariants as outcomes

-- ---- the streams that were read

-- the bytes of sources that come to these results
pub results_read : (names : List ProcessNames) (sources : List Source) (results : List StreamResult)
    → AllZip (ComesTo names) sources results → (streams : List (List ℕ)) × AllZip IsWholeInput sources streams
    × AreRecordedResults names streams results
results_read names [] [] are = ([], tt, tt)
results_read names [] (r ∷ results) are = absurd are
results_read names (s ∷ sources) [] are = absurd are
results_read names (s ∷ sources) (r ∷ results) are =
    let rest = results_read names sources results are.1 in
    (are.0.0 ∷ rest.0, (are.0.1, rest.1), (are.0.2, rest.2))

pub as_many : (sources : List Source) (streams : List (List ℕ)) → AllZip IsWholeInput sources streams
    → length streams ≡ length sources
as_many [] [] are = refl
as_many [] (s ∷ streams) are = absurd are
as_many (s ∷ sources) [] are = absurd are
as_many (s ∷ sources) (t ∷ streams) are = ap suc (as_many sources streams are.1)

-- ---- a trace for each process

traces_length : (p : ℕ) (others : List ProcessNames) (results : List StreamResult) (traces : List Trace)
    → traces_from p others results ≡ Ok traces → length traces ≡ length others
traces_length p [] results traces e = let same : [] ≡ traces = cc in sym (ap length same)
traces_length p (name ∷ others) results traces e =
    go (λ (t : List Trace). traces_length (suc p) others results t) (trace_of p results)
    (traces_from (suc p) others results) refl refl
  where
    go : ((t : List Trace) → traces_from (suc p) others results ≡ Ok t → length t ≡ length others)
        → (o : Option Trace) (r : Result (List Trace) SessionFault) → trace_of p results ≡ o
        → traces_from (suc p) others results ≡ r → length traces ≡ suc (length others)
    go more None r at from = absurd (let h = rw at at e in cc)
    go more (Some trace) (Err fault) at from = absurd (let h = rw (at, from) at e in cc)
    go more (Some trace) (Ok later) at from =
        let h = rw (at, from) at e in
        let same : trace ∷ later ≡ traces = cc in
        sym (ap length same) ∙ ap suc (more later from)

session_length : (most : ℕ) (names : List ProcessNames) (streams : ℕ) (results : List StreamResult)
    (traces : List Trace) → session_within most names streams results ≡ Ok traces → length traces ≡ length names
session_length most names streams results traces e =
    go (nat_lt most streams) (first_stream_fault [] results) refl refl
  where
    go : (b : Bool) (o : Option SessionFault) → nat_lt most streams ≡ b
        → first_stream_fault [] results ≡ o → length traces ≡ length names
    go true o many at = absurd (let h = rw many at e in cc)
    go false (Some fault) few at = absurd (let h = rw (few, at) at e in cc)
    go false None few at = traces_length 0 names results traces (rw (few, at) at e)

-- ---- the document

module _ (inquiry : Inquiry) (document : Document) (is : IsDocumentWithin recorded_process_limit inquiry document)
  where
    some_named : 1 ≤ length document.names
    some_named =
        let clear = faultless recorded_process_limit is.outline
        (sound_is_faultless recorded_process_limit inquiry is.outline is.sound) in
        let few = within 1 recorded_process_limit (length is.outline.processes) clear.processes in
        let same : length document.names ≡ length is.outline.processes =
        ap length is.names ∙ length-map is.outline.processes _ in
        subst (λ (n : ℕ). 1 ≤ n) (sym same) few.0

    -- a row of initial values for each process
    row_each : length document.initial ≡ length document.names
    row_each =
        ap length is.initial ∙ (length-map is.outline.processes _
        ∙ sym (ap length is.names ∙ length-map is.outline.processes _))

module _ (inquiry : Inquiry) (streams : List (List ℕ)) (document : Document) (traces : List Trace)
    (are : AreTracesOf inquiry streams document traces) where
  pub as_many_named : length document.names ≡ length (events_of_traces traces)
  as_many_named =
      sym (length-map traces (λ (trace : Trace). trace.events)
      ∙ session_length recorded_stream_limit document.names (length streams) are.results traces are.joined)

  pub as_many_rows : length document.initial ≡ length (events_of_traces traces)
  as_many_rows = row_each inquiry document are.is_document ∙ as_many_named

  pub some_process : 1 ≤ length (events_of_traces traces)
  some_process =
      let each : length document.names ≡ length (events_of_traces traces) = as_many_named in
      let some : 1 ≤ length document.names = some_named inquiry document are.is_document in
      omega (arith, each, some)

  pub is_run : IsWellFormed document.version (events_of_traces traces)
      → IsRun inquiry streams document (recorded_of document traces)
  is_run formed = record {
    is_document = are.is_document;
    results = are.results;
    are_results = are.are_results;
    traces = traces;
    joined = are.joined;
    formed = formed;
    is_recorded = refl;
  }

  module _ (run : RecordedRun) (ran : IsRunOf document traces run) (counts : Counts)
      (processes : counts.processes ≡ length document.names) (events : counts.events ≡ run.events)
      (messages : counts.messages ≡ run.messages) where
    pub has_counts : HasCounts document (recorded_of document traces) counts
    has_counts = record {
      all_processes = processes;
      all_events = events ∙ ran.all_events;
      all_messages = rw messages ran.all_messages;
    }

    run_line : IsRunLine inquiry streams document (recorded_of document traces) (line_of (codes "run") counts)
    run_line = record {
      is_run = is_run ran.formed;
      messages = counts.messages;
      has_messages = has_counts.all_messages;
      is_line = rw (has_counts.all_processes, has_counts.all_events) refl;
    }

    pub unmade : IsUnmadeText inquiry streams (line_of (codes "run") counts ++ codes "no session\n")
    unmade = record {
      document = document;
      recorded = recorded_of document traces;
      first = line_of (codes "run") counts;
      is_first = run_line;
      is_text = refl;
    }

-- ---- runs that are refused

same_report : (a b : reports.Report) → ◌≡◌ {A = Option reports.Report} (Some a) (Some b) → b ≡ a
same_report a b e = cc

pub refused_streams : (inquiry : Inquiry) (streams : List (List ℕ)) (document : Document)
    (results : List StreamResult) (unanswered : Unanswered) (outcome : Outcome)
    → IsDocumentWithin recorded_process_limit inquiry document → AreRecordedResults document.names streams results
    → IsUnanswered (IsReportOfSession document
    (session_within recorded_stream_limit document.names (length streams) results)) unanswered
    → IsRefusedBy unanswered outcome → ComesOfRun inquiry streams outcome
refused_streams inquiry streams document results (Refused refusal) (outcomes.Refused report) is are h by = record {
  refusal = refusal_view refusal;
  is_refused = of_streams document results is are h;
  is_text = ap report_text (same_report _ _ by);
}
refused_streams inquiry streams document results Memory (outcomes.Refused report) is are h by = absurd (cc)
refused_streams inquiry streams document results unanswered (outcomes.Unmade run) is are h by = absurd by
refused_streams inquiry streams document results unanswered (outcomes.Made made) is are h by = absurd by

refused_by : (inquiry : Inquiry) (streams : List (List ℕ)) (report seen : reports.Report)
    → IsRefusal inquiry streams seen → report ≡ seen → IsRefusedText inquiry streams (report_text report)
refused_by inquiry streams report seen is same = record {
  refusal = is.refusal;
  is_refused = is.is_refused;
  is_text = ap report_text (same ∙ is.is_report);
}

pub refused_document : (inquiry : Inquiry) (sources : List Source) (unanswered : Unanswered) (outcome : Outcome)
    → IsUnanswered (λ report. (streams : List (List ℕ)) → IsRefusal inquiry streams report) unanswered
    → IsRefusedBy unanswered outcome → ComesOf inquiry sources outcome
refused_document inquiry sources (Refused refusal) (outcomes.Refused report) h by =
    inl (λ streams. refused_by inquiry streams (report_view report) _ (h streams) (same_report _ _ by))
refused_document inquiry sources Memory (outcomes.Refused report) h by = absurd (cc)
refused_document inquiry sources unanswered (outcomes.Unmade run) h by = absurd by
refused_document inquiry sources unanswered (outcomes.Made made) h by = absurd by

-- ---- all

-- what comes of the run of a document's streams comes of the document
pub of_run : (inquiry : Inquiry) (sources : List Source) (outcome : Outcome)
    → OfStreams sources (λ streams. ComesOfRun inquiry streams outcome) → ComesOf inquiry sources outcome
of_run inquiry sources (outcomes.Refused report) h = inr h
of_run inquiry sources (outcomes.Unmade run) h = h
of_run inquiry sources (outcomes.Made made) h = h

module _ (inquiry : Inquiry) (sources : List Source) (document : Document) (results : List StreamResult) (count : ℕ)
    (is : IsDocumentWithin recorded_process_limit inquiry document) (all : count ≡ length sources)
    (come : AllZip (ComesTo document.names) sources results) (outcome : Outcome) where
  -- what comes of all streams of which these results come
  of_results : ((streams : List (List ℕ)) → AreRecordedResults document.names streams results
      → count ≡ length streams → ComesOfRun inquiry streams outcome)
      → OfStreams sources (λ streams. ComesOfRun inquiry streams outcome)
  of_results go =
      let read = results_read document.names sources results come in
      (read.0, read.1, go read.0 read.2 (all ∙ sym (as_many sources read.0 read.1)))

  pub run_of_results : (run : RecordedRun)
      → ((traces : List Trace) × (session_within recorded_stream_limit document.names count results ≡ Ok traces)
      × IsRunOf document traces run)
      → ((streams : List (List ℕ)) (traces : List Trace) → AreTracesOf inquiry streams document traces
      → IsRunOf document traces run → ComesOfRun inquiry streams outcome)
      → OfStreams sources (λ streams. ComesOfRun inquiry streams outcome)
  run_of_results run ran go =
      of_results (λ streams are many. go streams ran.0 (record {
        is_document = is;
        results = results;
        are_results = are;
        joined = subst (λ (n : ℕ).
            session_within recorded_stream_limit document.names n results ≡ Ok ran.0) many ran.1;
      }) ran.2)

  pub refusal_of_results : (unanswered : Unanswered)
      → IsUnanswered (IsReportOfSession document
      (session_within recorded_stream_limit document.names count results)) unanswered → IsRefusedBy unanswered outcome
      → OfStreams sources (λ streams. ComesOfRun inquiry streams outcome)
  refusal_of_results unanswered h by =
      of_results (λ streams are many. refused_streams inquiry streams document results unanswered outcome is are
      (subst (λ (n : ℕ). IsUnanswered (IsReportOfSession document
      (session_within recorded_stream_limit document.names n results)) unanswered) many h) by)
