-- What a report says of the computation after it, in the words of cuts and observations: if each level is narrow no
-- answer is unknown, and each is the truth; and so is each that is decided whatever the width or, for Possibly, by
-- sums, if that is asked for.
use Rattle.std.specs.Prelude.{◌≡◌, ℕ, ◌≤◌, Bool, true, false, ⊤, ◌⊎◌, ◌↔◌, List, All, length, map, sum, Ok}
use Rattle.std.specs.List.{AllZip}
use Rattle.def_model.specs.Events.{Computation}
use Rattle.def_model.specs.Messages.{HasMessages}
use Rattle.def_model.specs.Order.{IsWellFormed}
use Rattle.def_model.specs.Cuts.{IsConsistent, IsOfLevel, total}
use Rattle.def_model.specs.Observations as observations
use Rattle.def_model.specs.Answers.{IsListOf, MoreThan, IsAvoidingObservation}
use Rattle.def_model.specs.Predicates.{Predicate, Recorded, test_of}
use Rattle.def_wide.specs.Decided.{IsDefinitelyDecided, IsPossiblyDecided}
use Rattle.def_wide.specs.DeadEnds.{HasFewDeadEnds}
use Rattle.def_wide.specs.Sums.{IsDecidedBySums}
use Rattle.def_format.specs.Names.{ProcessNames, name_of_process}
use Rattle.def_format.specs.Readings.{Trace}
use Rattle.def_format.specs.Documents.{Document, NamedPredicate, Inquiry, IsDocument}
use Rattle.def_format.specs.Sessions.{StreamResult, session}
use Rattle.def_format.specs.Reports.{Possibly, Definitely, Answer, Report, Judged, Refused}
use Rattle.def_judgement.specs.Judgements.{RawStream, events_of_traces, recorded_of, IsTracesReport, AreResultsOf, IsJudgement}

-- no level has more cuts than the width: the list of all its cuts is no longer
abbrev pub IsNarrow : Computation → ℕ → Type 0
IsNarrow c width = (k : ℕ) → (cuts : List (List ℕ)) × IsListOf (IsOfLevel c k) cuts × (length cuts ≤ width)

-- some level has more cuts than the width
abbrev pub IsTooWide : Computation → ℕ → Type 0
IsTooWide c width = (k : ℕ) × MoreThan width (IsOfLevel c k)

-- A computation is narrow or too wide, and never both.
abbrev pub NarrowOrTooWide : Type 0
NarrowOrTooWide =
    (c : Computation) (width : ℕ) → (IsNarrow c width ⊎ IsTooWide c width)
    × (IsNarrow c width → IsTooWide c width → ⊥)

-- Definitely yes never stands beside Possibly no; and if both are yes, the cut printed has at most as many events as
-- the level printed.
pub record AnswersAgree (answer : Answer) : Type 0 where
  pub no_clash : (level : ℕ) → answer.definitely ≡ Definitely.Yes level → ¬ (answer.possibly ≡ Possibly.No)
  pub below : (cut : List ℕ) (level : ℕ) → answer.possibly ≡ Possibly.Yes cut → answer.definitely ≡ Definitely.Yes level
      → sum cut ≤ level

-- Possibly's answer is the truth about the test of cuts: it is yes exactly if some consistent cut satisfies, and no
-- exactly if none does.
pub record SaysPossibly (c : Computation) (test : List ℕ → Bool) (answer : Possibly) : Type 0 where
  pub yes_exactly : ((cut : List ℕ) × (answer ≡ Possibly.Yes cut)) ↔ observations.Possibly c test
  pub no_exactly : (answer ≡ Possibly.No) ↔ (¬ observations.Possibly c test)
  -- the cut printed is consistent and satisfies
  pub cut_satisfies : (cut : List ℕ) → answer ≡ Possibly.Yes cut → IsConsistent c cut × (test cut ≡ true)

-- Definitely's answer is: it is yes exactly if every observation passes through a satisfying cut, and no exactly if not
-- all do.
pub record SaysDefinitely (names : List ProcessNames) (c : Computation) (test : List ℕ → Bool) (answer : Definitely) :
    Type 0 where
  pub yes_exactly : ((level : ℕ) × (answer ≡ Definitely.Yes level)) ↔ observations.Definitely c test
  pub no_exactly : ((reported : List (List ℕ)) × (answer ≡ Definitely.No reported)) ↔ (¬ observations.Definitely c test)
  -- the names printed are those of the processes of an observation with no satisfying cut
  pub path_avoids : (reported : List (List ℕ)) → answer ≡ Definitely.No reported → (path : List ℕ)
      × (reported ≡ map (name_of_process names) path) × IsAvoidingObservation c test path

-- of which predicates an answer is said to be the truth, for each modality
pub record Coverage : Type 1 where
  pub possibly : Recorded → Predicate → Type 0
  pub definitely : Recorded → Predicate → Type 0

-- of each
abbrev pub each_predicate : Coverage
each_predicate = record { possibly = λ recorded predicate. ⊤; definitely = λ recorded predicate. ⊤ }

-- Of each that is decided at any width; for Possibly of each that sums decide, too, and for Definitely of each with no
-- more dead ends than the width.
abbrev pub each_decided : ℕ → Coverage
each_decided w = record {
  possibly = λ recorded predicate. IsPossiblyDecided recorded predicate ⊎ IsDecidedBySums recorded predicate;
  definitely = λ recorded predicate. IsDefinitelyDecided recorded predicate ⊎ HasFewDeadEnds recorded predicate w;
}

-- What an answer says is true, at every width: a cut that is printed is consistent and satisfies, and with no of
-- Possibly none does; with yes of Definitely every observation passes through a satisfying cut, and no cut of the level
-- that is printed avoids; and the names that are printed are those of the processes of an observation with no
-- satisfying cut.
pub record IsSound (names : List ProcessNames) (c : Computation) (test : List ℕ → Bool) (answer : Answer) :
    Type 0 where
  pub possibly_yes : (cut : List ℕ) → answer.possibly ≡ Possibly.Yes cut → IsConsistent c cut × (test cut ≡ true)
  pub possibly_no : answer.possibly ≡ Possibly.No → ¬ observations.Possibly c test
  pub definitely_yes : (level : ℕ) → answer.definitely ≡ Definitely.Yes level
      → observations.Definitely c test × observations.HasNoAvoiding c test level
  pub definitely_no : (reported : List (List ℕ)) → answer.definitely ≡ Definitely.No reported → (path : List ℕ)
      × (reported ≡ map (name_of_process names) path) × IsAvoidingObservation c test path

-- What the answer says is true, and it says it by each modality of which the predicate is covered; both agree.
pub record SaysTruly (coverage : Coverage) (names : List ProcessNames) (recorded : Recorded) (predicate : Predicate)
    (answer : Answer) : Type 0 where
  pub possibly : coverage.possibly recorded predicate
      → SaysPossibly recorded.events (test_of recorded predicate) answer.possibly
  pub definitely : coverage.definitely recorded predicate
      → SaysDefinitely names recorded.events (test_of recorded predicate) answer.definitely
  pub sound : IsSound names recorded.events (test_of recorded predicate) answer
  pub agrees : AnswersAgree answer

-- under the name of the predicate that is asked, the truth about it
abbrev pub AnswersTruly : Coverage → Document → List Trace → NamedPredicate → Answer → Type 0
AnswersTruly coverage document traces asked answer =
    (answer.name ≡ asked.name)
    × SaysTruly coverage document.names (recorded_of document traces) asked.predicate answer

-- The report counts the processes, the events and the messages, and answers each predicate of the document truly, as
-- far as it is covered, in their order.
pub record TellsTruth (coverage : Coverage) (document : Document) (traces : List Trace) (report : Report) : Type 0 where
  pub messages : ℕ
  pub answers : List Answer
  pub reported : report ≡ Judged (length document.names) (total (events_of_traces traces)) messages answers
  pub counted : HasMessages (events_of_traces traces) messages
  pub truly : AllZip (AnswersTruly coverage document traces) document.predicates answers

-- A report of traces that make a well-formed computation with no level over the width says the truth.
abbrev pub Headline : Type 0
Headline =
    (document : Document) (traces : List Trace) (report : Report)
    → IsWellFormed document.version (events_of_traces traces) → IsNarrow (events_of_traces traces) document.width
    → IsTracesReport document traces report → TellsTruth each_predicate document traces report

-- A report of traces that make a well-formed computation, however wide, says the truth about what is decided at any
-- width or, for Possibly, by sums, if the document asks for that.
abbrev pub HeadlineBeyondWidth : Type 0
HeadlineBeyondWidth =
    (document : Document) (traces : List Trace) (report : Report)
    → IsWellFormed document.version (events_of_traces traces) → document.beyond_width ≡ true
    → IsTracesReport document traces report → TellsTruth (each_decided document.width) document traces report

-- ---- at every width

-- The report has an answer for each predicate, and is no refusal.
abbrev pub is_judged : Report → Bool
is_judged (Judged processes events messages answers) = true
is_judged (Refused refusal) = false

-- the answers of a report for each predicate agree
abbrev pub ReportAgrees : Report → Type 0
ReportAgrees (Judged processes events messages answers) = All AnswersAgree answers
ReportAgrees (Refused refusal) = ⊤

-- The report of any traces agrees, at every width.
abbrev pub ReportsAgree : Type 0
ReportsAgree =
    (document : Document) (traces : List Trace) (report : Report) → IsTracesReport document traces report
    → ReportAgrees report

-- ---- documents and streams

-- The bytes of a document, with what is asked beside them, and streams hold this document, and a session with these
-- traces.
pub record HoldsSession (inquiry : Inquiry) (streams : List RawStream) (document : Document) (traces : List Trace) :
    Type 0 where
  pub read : IsDocument inquiry document
  pub results : List StreamResult
  pub are_results : AreResultsOf document.names streams results
  pub joined : session document.names (length streams) results ≡ Ok traces

-- What the report of a document's bytes and of streams says is true: its answers agree; and if there is a well-formed
-- session in them, it is judged, and with no level over the width each answer is the truth; so is, however wide it is,
-- each answer that is decided, if that is asked for.
pub record IsTrueReport (inquiry : Inquiry) (streams : List RawStream) (report : Report) : Type 0 where
  pub agrees : ReportAgrees report
  pub judged : (document : Document) (traces : List Trace) → HoldsSession inquiry streams document traces
      → IsWellFormed document.version (events_of_traces traces) → is_judged report ≡ true
  pub headline : (document : Document) (traces : List Trace) → HoldsSession inquiry streams document traces
      → IsWellFormed document.version (events_of_traces traces) → IsNarrow (events_of_traces traces) document.width
      → TellsTruth each_predicate document traces report
  pub headline_beyond_width : inquiry.options.beyond_width ≡ true → (document : Document) (traces : List Trace)
      → HoldsSession inquiry streams document traces → IsWellFormed document.version (events_of_traces traces)
      → TellsTruth (each_decided document.width) document traces report

-- The report of a document's bytes and of streams is true.
abbrev pub JudgementIsTrue : Type 0
JudgementIsTrue = (inquiry : Inquiry) (streams : List RawStream) (report : Report)
    → IsJudgement inquiry streams report → IsTrueReport inquiry streams report
