-- The report that a document and its streams make: the first refusal, or an answer for each predicate.
use Rattle.std.specs.Prelude.{◌≡◌, ℕ, true, List, [], ◌∷◌, length, map, Some, Result, Ok, Err}
use Rattle.std.specs.List.{AllZip}
use Rattle.def_model.specs.Events.{Computation, Place}
use Rattle.def_model.specs.Messages.{Fault, IsReported, HasLawfulMessages, HasMessages}
use Rattle.def_model.specs.Order.{IsWellFormed, IsReportedCycle}
use Rattle.def_model.specs.Cuts.{total}
use Rattle.def_model.specs.Predicates.{Predicate, Recorded, test_of}
use Rattle.def_model.specs.Answers.{PossiblyAnswer, PossiblyYes, PossiblyNo, PossiblyUnknown, IsExactPossibly, IsPossiblyUnknown, IsPossiblyAnswer, DefinitelyAnswer, DefinitelyYes, DefinitelyNo, DefinitelyUnknown, IsDefinitelyUnknown, IsDefinitelyAnswer, IsExactDefinitely}
use Rattle.def_wide.specs.Decided.{IsDefinitelyDecided, IsPossiblyDecided}
use Rattle.def_wide.specs.DeadEnds.{IsFoundBack}
use Rattle.def_wide.specs.Gates.{IsLateLevel}
use Rattle.def_wide.specs.Heights.{IsFirstByHeight}
use Rattle.def_wide.specs.Sums.{IsDecidedBySums}
use Rattle.def_wide.specs.Tried.{IsFirstTried}
use Rattle.def_format.specs.Names.{ProcessNames, name_of_process}
use Rattle.def_format.specs.Readings.{Ending, Ended, Trace, result_of, reading}
use Rattle.def_format.specs.Documents.{Document, NamedPredicate, DocumentFault, Inquiry, IsDocument, IsRefusedDocument, plain}
use Rattle.def_format.specs.Sessions.{SessionFault, StreamResult, session}
use Rattle.def_format.specs.Reports.{Possibly, Definitely, Answer, Report, Judged, Refused}
use Rattle.def_format.specs.Reports as reports
use Rattle.def_format.specs.RefusalWords.{document_refusal, session_refusal, named_place, match_refusal}
use Rattle.def_format.specs.Bundles.{parts_of}

-- ---- the report of traces

abbrev pub events_of_traces : List Trace → Computation
events_of_traces traces = map (λ (trace : Trace). trace.events) traces

-- what was recorded: the traces' events, and the document's initial values
abbrev pub recorded_of : Document → List Trace → Recorded
recorded_of document traces = record { initial = document.initial; events = events_of_traces traces }

abbrev pub printed_possibly : PossiblyAnswer → Possibly
printed_possibly (PossiblyYes cut) = Possibly.Yes cut
printed_possibly PossiblyNo = Possibly.No
printed_possibly (PossiblyUnknown level) = Possibly.Unknown level

-- the avoiding observation as the names of its processes
abbrev pub printed_definitely : List ProcessNames → DefinitelyAnswer → Definitely
printed_definitely names (DefinitelyYes level) = Definitely.Yes level
printed_definitely names (DefinitelyNo path) = Definitely.No (map (name_of_process names) path)
printed_definitely names (DefinitelyUnknown level) = Definitely.Unknown level

-- If the document asks for answers beyond its width, an answer that stays unknown is of a predicate that sums don't
-- decide and that no tried cut satisfies.
pub record NothingTried (recorded : Recorded) (predicate : Predicate) (answer : PossiblyAnswer) : Type 0 where
  pub not_by_sums : (level : ℕ) → answer ≡ PossiblyUnknown level → ¬ IsDecidedBySums recorded predicate
  pub none : (level : ℕ) → answer ≡ PossiblyUnknown level → (cut : List ℕ)
      → ¬ IsFirstTried recorded.events (test_of recorded predicate) cut

-- Whether some consistent cut satisfies a predicate. If the document asks for answers beyond its width, there are four
-- cases. If the predicate is decided at any width, the answer is the exact one. If it isn't, but sums decide it, and
-- the answer under the width is unknown, the answer is yes, with the first satisfying cut by height: some cut
-- satisfies, since else the predicate would be decided at any width. If sums don't decide it either, and the answer
-- under the width is unknown, the answer is yes if a tried cut satisfies, with the first of these. In all other cases
-- the answer is that under the width. If the document doesn't ask, the answer is that under the width.
pub data AnswersPossibly (document : Document) (recorded : Recorded) (predicate : Predicate) (answer : PossiblyAnswer) :
    Type 0 where
  possibly_beyond : document.beyond_width ≡ true → IsPossiblyDecided recorded predicate
      → IsExactPossibly recorded.events (test_of recorded predicate) answer
      → AnswersPossibly document recorded predicate answer
  possibly_by_height : document.beyond_width ≡ true → (¬ IsPossiblyDecided recorded predicate)
      → IsDecidedBySums recorded predicate → (level : ℕ)
      → IsPossiblyUnknown recorded.events (test_of recorded predicate) document.width level → (cut : List ℕ)
      → answer ≡ PossiblyYes cut → IsFirstByHeight recorded.events (test_of recorded predicate) cut
      → AnswersPossibly document recorded predicate answer
  possibly_tried : document.beyond_width ≡ true → (¬ IsPossiblyDecided recorded predicate)
      → (¬ IsDecidedBySums recorded predicate) → (level : ℕ)
      → IsPossiblyUnknown recorded.events (test_of recorded predicate) document.width level → (cut : List ℕ)
      → answer ≡ PossiblyYes cut → IsFirstTried recorded.events (test_of recorded predicate) cut
      → AnswersPossibly document recorded predicate answer
  possibly_within : (document.beyond_width ≡ true → ¬ IsPossiblyDecided recorded predicate)
      → (document.beyond_width ≡ true → NothingTried recorded predicate answer)
      → IsPossiblyAnswer recorded.events (test_of recorded predicate) document.width answer
      → AnswersPossibly document recorded predicate answer

-- The search back from the full cut finds no path of an avoiding observation, and if the answer is unknown, there is no
-- level for a yes.
pub record NothingBeyond (recorded : Recorded) (predicate : Predicate) (w : ℕ) (answer : DefinitelyAnswer) :
    Type 0 where
  pub no_path : (path : List ℕ) → ¬ IsFoundBack recorded predicate w path
  pub no_level : (unknown : ℕ) → answer ≡ DefinitelyUnknown unknown → (level : ℕ)
      → ¬ IsLateLevel recorded predicate w level

-- Whether every observation passes through a cut that satisfies a predicate. If the document asks for answers beyond
-- its width, there are four cases. If the predicate is decided at any width, the answer is the exact one. If it isn't,
-- but the search back from the full cut finds the path that is printed, with no more dead ends before it than the
-- width, the answer is no with this path. If it doesn't, and the answer under the width is unknown, the answer is yes
-- if there is a level for that. In all other cases the answer is that under the width. If the document doesn't ask, the
-- answer is that under the width.
pub data AnswersDefinitely (document : Document) (recorded : Recorded) (predicate : Predicate)
    (answer : DefinitelyAnswer) : Type 0 where
  definitely_beyond : document.beyond_width ≡ true → IsDefinitelyDecided recorded predicate
      → IsExactDefinitely recorded.events (test_of recorded predicate) answer
      → AnswersDefinitely document recorded predicate answer
  definitely_back : document.beyond_width ≡ true → (¬ IsDefinitelyDecided recorded predicate) → (path : List ℕ)
      → IsFoundBack recorded predicate document.width path → answer ≡ DefinitelyNo path
      → AnswersDefinitely document recorded predicate answer
  definitely_late : document.beyond_width ≡ true → (¬ IsDefinitelyDecided recorded predicate)
      → ((path : List ℕ) → ¬ IsFoundBack recorded predicate document.width path) → (unknown : ℕ)
      → IsDefinitelyUnknown recorded.events (test_of recorded predicate) document.width unknown → (level : ℕ)
      → IsLateLevel recorded predicate document.width level → answer ≡ DefinitelyYes level
      → AnswersDefinitely document recorded predicate answer
  definitely_within : (document.beyond_width ≡ true → ¬ IsDefinitelyDecided recorded predicate)
      → (document.beyond_width ≡ true → NothingBeyond recorded predicate document.width answer)
      → IsDefinitelyAnswer recorded.events (test_of recorded predicate) document.width answer
      → AnswersDefinitely document recorded predicate answer

-- The answer for one predicate of a document, as a report gives it.
pub record IsAnswered (document : Document) (recorded : Recorded) (asked : NamedPredicate) (answer : Answer) :
    Type 0 where
  pub name : answer.name ≡ asked.name
  pub possibly : PossiblyAnswer
  pub possibly_reported : answer.possibly ≡ printed_possibly possibly
  pub possibly_right : AnswersPossibly document recorded asked.predicate possibly
  pub definitely : DefinitelyAnswer
  pub definitely_reported : answer.definitely ≡ printed_definitely document.names definitely
  pub definitely_right : AnswersDefinitely document recorded asked.predicate definitely

-- The report of traces: the first fault of the messages, else the causal cycle, else the answers.
pub data IsTracesReport (document : Document) (traces : List Trace) : Report → Type 0 where
  of_messages : (fault : Fault) → IsReported document.version (events_of_traces traces) fault
      → IsTracesReport document traces (Refused (match_refusal document.names fault))
  of_cycle : (cycle : List Place) → HasLawfulMessages document.version (events_of_traces traces)
      → IsReportedCycle (events_of_traces traces) cycle
      → IsTracesReport document traces (Refused (reports.Cycle (map (named_place document.names) cycle)))
  of_answers : (messages : ℕ) (answers : List Answer)
      → IsWellFormed document.version (events_of_traces traces) → HasMessages (events_of_traces traces) messages
      → AllZip (IsAnswered document (recorded_of document traces)) document.predicates answers
      → IsTracesReport document traces (Judged (length document.names) (total (events_of_traces traces))
      messages answers)

-- the report of what a session comes to
abbrev pub IsReportOfSession : Document → Result (List Trace) SessionFault → Report → Type 0
IsReportOfSession document (Err fault) report = report ≡ Refused (session_refusal document.names fault)
IsReportOfSession document (Ok traces) report = IsTracesReport document traces report

-- the report of this many streams with these outcomes
abbrev pub IsReportOfResults : Document → ℕ → List StreamResult → Report → Type 0
IsReportOfResults document streams outcomes report =
    IsReportOfSession document (session document.names streams outcomes) report

-- ---- the report of streams and of bundles

-- what a stream reported: its bytes, and how they ended
pub record RawStream : Type 0 where
  pub ending : Ending
  pub bytes : List ℕ

-- What a stream comes to: a trace or a fault. A stream of which more may come, and that has neither yet, comes to
-- nothing.
abbrev pub IsResultOf : List ProcessNames → RawStream → StreamResult → Type 0
IsResultOf names stream result = result_of (reading names stream.ending stream.bytes) ≡ Some result

-- what each stream comes to, in the streams' order
abbrev pub AreResultsOf : List ProcessNames → List RawStream → List StreamResult → Type 0
AreResultsOf names streams results = AllZip (IsResultOf names) streams results

-- the report of a document's bytes, with what is asked beside them, and of what the streams reported
pub data IsJudgement (inquiry : Inquiry) (streams : List RawStream) (report : Report) : Type 0 where
  of_refused : (fault : DocumentFault) → IsRefusedDocument inquiry fault
      → report ≡ Refused (document_refusal fault) → IsJudgement inquiry streams report
  of_read : (document : Document) (results : List StreamResult) → IsDocument inquiry document
      → AreResultsOf document.names streams results → IsReportOfResults document (length streams) results report
      → IsJudgement inquiry streams report

-- a stream with these bytes, to its end
abbrev pub ended_stream : List ℕ → RawStream
ended_stream bytes = record { ending = Ended; bytes = bytes }

abbrev pub ended_streams : List (List ℕ) → List RawStream
ended_streams parts = map ended_stream parts

-- the report of a bundle: its first part is the document, and the others are the streams
abbrev pub IsReportOfParts : List (List ℕ) → Report → Type 0
IsReportOfParts [] report = ⊥
IsReportOfParts (document ∷ streams) report = IsJudgement (plain document) (ended_streams streams) report

abbrev pub IsReportOfBundle : List ℕ → Report → Type 0
IsReportOfBundle bytes report = IsReportOfParts (parts_of bytes) report
