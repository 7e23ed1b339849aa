-- What comes of a recorded run.
use Rattle.std.specs.Prelude.{◌≡◌, ◌⊎◌, ◌++◌, ℕ, List, Ok, Some, codes, length}
use Rattle.def_model.specs.Predicates.{Recorded}
use Rattle.def_format.specs.Documents.{Document, Inquiry, IsDocumentWithin}
use Rattle.def_format.specs.Names.{ProcessNames}
use Rattle.def_format.specs.Readings.{Trace}
use Rattle.def_format.specs.Reports.{Refused, report_text}
use Rattle.def_format.specs.Reports as reports
use Rattle.def_format.specs.Sessions.{StreamResult, session_within}
use Rattle.def_judgement.specs.Writes.{IsWholeInput, Source}
use Rattle.def_model.specs.Cuts.{total}
use Rattle.def_model.specs.Messages.{HasMessages}
use Rattle.def_recordings.specs.Recordings.{AreRecordedResults, IsRecordedResult, IsRefusedRun, IsRun, recorded_process_limit, recorded_stream_limit}
use Rattle.judge_reduction.specs.ReducedSessions.{IsReductionOf}
use Rattle.judge_session.specs.Unanswered.{refused_report}
use Rattle.judge_session.specs.declared.unanswered.Unanswered.{Unanswered}
use Rattle.pd_report.specs.Views.{report_view}
use Rattle.app_reduce.specs.ReducedTexts.{IsRefusedText, IsUnmadeText, OfStreams, counts_line}
use Rattle.app_reduce.specs.declared.counts.Counts.{Counts}
use Rattle.app_reduce.specs.declared.outcome.MadeSession.{MadeSession}
use Rattle.app_reduce.specs.declared.outcome.Outcome.{Outcome}
use Rattle.app_reduce.specs.declared.outcome.Outcome.TheVariants as outcomes

-- ---- streams

-- the bytes of a stream that is read from this source, to its end, come to this
abbrev pub ComesTo : List ProcessNames → Source → StreamResult → Type 0
ComesTo names source result = (bytes : List ℕ) × IsWholeInput source bytes × IsRecordedResult names bytes result

-- the document of an inquiry and these streams come to these traces
pub record AreTracesOf (inquiry : Inquiry) (streams : List (List ℕ)) (document : Document) (traces : List Trace) :
    Type 0 where
  pub is_document : IsDocumentWithin recorded_process_limit inquiry document
  pub results : List StreamResult
  pub are_results : AreRecordedResults document.names streams results
  pub joined : session_within recorded_stream_limit document.names (length streams) results ≡ Ok traces

-- ---- refusals

-- this is the report by which the run is refused
pub record IsRefusal (inquiry : Inquiry) (streams : List (List ℕ)) (report : reports.Report) : Type 0 where
  pub refusal : reports.Refusal
  pub is_refused : IsRefusedRun inquiry streams refusal
  pub is_report : report ≡ Refused refusal

-- the outcome is the report of a run that comes to no answers for this reason
abbrev pub IsRefusedBy : Unanswered → Outcome → Type 0
IsRefusedBy unanswered (outcomes.Refused report) = refused_report unanswered ≡ Some (report_view report)
IsRefusedBy unanswered (outcomes.Unmade run) = ⊥
IsRefusedBy unanswered (outcomes.Made made) = ⊥

-- ---- the texts

abbrev pub line_of : (word : List ℕ) → Counts → List ℕ
line_of word counts = counts_line word counts.processes counts.events counts.messages

-- the text of an outcome
abbrev pub outcome_text : Outcome → List ℕ
outcome_text (outcomes.Refused report) = report_text (report_view report)
outcome_text (outcomes.Unmade run) = line_of (codes "run") run ++ codes "no session\n"
outcome_text (outcomes.Made made) =
    line_of (codes "run") made.run
    ++ counts_line (codes "session") (length made.session.places.items) made.session.events made.session.messages

-- ---- outcomes

-- this many processes, events and messages have the document and what was recorded
pub record HasCounts (document : Document) (recorded : Recorded) (counts : Counts) : Type 0 where
  pub all_processes : counts.processes ≡ length document.names
  pub all_events : counts.events ≡ total recorded.events
  pub all_messages : HasMessages recorded.events counts.messages

-- it is a session that has the answers of the run
pub record IsMade (inquiry : Inquiry) (streams : List (List ℕ)) (made : MadeSession) : Type 0 where
  pub document : Document
  pub recorded : Recorded
  pub is_run : IsRun inquiry streams document recorded
  pub counts : HasCounts document recorded made.run
  pub reduction : IsReductionOf document recorded made.session

-- this comes of the run of a document and streams
abbrev pub ComesOfRun : Inquiry → (streams : List (List ℕ)) → Outcome → Type 0
ComesOfRun inquiry streams (outcomes.Refused report) = IsRefusedText inquiry streams (report_text (report_view report))
ComesOfRun inquiry streams (outcomes.Unmade run) =
    IsUnmadeText inquiry streams (line_of (codes "run") run ++ codes "no session\n")
ComesOfRun inquiry streams (outcomes.Made made) = IsMade inquiry streams made

-- this comes of a document, or of it and the streams of these sources
abbrev pub ComesOf : Inquiry → List Source → Outcome → Type 0
ComesOf inquiry sources (outcomes.Refused report) =
    ((streams : List (List ℕ)) → IsRefusedText inquiry streams (report_text (report_view report)))
    ⊎ OfStreams sources (λ streams. ComesOfRun inquiry streams (outcomes.Refused report))
ComesOf inquiry sources (outcomes.Unmade run) =
    OfStreams sources (λ streams. ComesOfRun inquiry streams (outcomes.Unmade run))
ComesOf inquiry sources (outcomes.Made made) =
    OfStreams sources (λ streams. ComesOfRun inquiry streams (outcomes.Made made))
