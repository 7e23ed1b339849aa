-- What a check of a report finds: how the report stands to the session that it is said to be of.
use Rattle.std.specs.Prelude.{◌≡◌, ℕ, Bool, true, false, not, ◌&&◌, ◌||◌, IsTrue, ◌↔◌, List, ◌∷◌, [], ◌++◌, All, length, map, zip, codes, decimal, Option, Some, None, Ok}
use Rattle.std.specs.List.{AllZip, list_any}
use Rattle.def_model.specs.Events.{Computation}
use Rattle.def_model.specs.Messages.{HasMessages}
use Rattle.def_model.specs.Order.{IsWellFormed}
use Rattle.def_model.specs.Cuts.{IsConsistent, total}
use Rattle.def_model.specs.Answers.{IsAvoidingObservation}
use Rattle.def_model.specs.Predicates.{test_of}
use Rattle.def_format.specs.Names.{ProcessNames, name_of_process}
use Rattle.def_format.specs.Readings.{Trace}
use Rattle.def_format.specs.Documents.{Document, NamedPredicate, Inquiry, IsDocument}
use Rattle.def_format.specs.Sessions.{StreamResult, session}
use Rattle.def_format.specs.Reports.{Possibly, Definitely, Answer, Refusal, Report, Judged, Refused, IsReport, IsNoReport, spaced}
use Rattle.def_judgement.specs.Judgements.{RawStream, AreResultsOf, events_of_traces, recorded_of, IsJudgement}
use Rattle.def_format.specs.OtherTexts.{Verdict, Good, Bad, Unchecked, Checked, Finding, NotRead, OfRefusal, OfSession, finding_lines, possibly_verdict, definitely_verdict}

-- ---- evidence

-- the counts are those of a consistent cut that satisfies
abbrev pub IsGoodCut : Computation → (List ℕ → Bool) → List ℕ → Type 0
IsGoodCut c test cut = IsConsistent c cut × (test cut ≡ true)

-- the names are those of the processes of an observation with no satisfying cut
pub record IsGoodPath (names : List ProcessNames) (c : Computation) (test : List ℕ → Bool) (reported : List (List ℕ)) :
    Type 0 where
  pub path : List ℕ
  pub named : reported ≡ map (name_of_process names) path
  pub avoids : IsAvoidingObservation c test path

-- the verdicts on one answer's evidence: good exactly if it shows what it is printed for
pub record IsChecked (names : List ProcessNames) (c : Computation) (test : List ℕ
    → Bool) (answer : Answer) (checked : Checked) : Type 0 where
  pub cut_is_good : Bool
  pub path_is_good : Bool
  pub name : checked.name ≡ answer.name
  pub possibly : checked.possibly ≡ possibly_verdict (λ _. cut_is_good) answer.possibly
  pub cut_right : (cut : List ℕ) → answer.possibly ≡ Possibly.Yes cut → IsTrue cut_is_good ↔ IsGoodCut c test cut
  pub definitely : checked.definitely ≡ definitely_verdict (λ _. path_is_good) answer.definitely
  pub path_right : (reported : List (List ℕ)) → answer.definitely ≡ Definitely.No reported → IsTrue path_is_good
      ↔ IsGoodPath names c test reported

-- an answer, under the predicate in whose place it stands
abbrev pub IsCheckedFor : Document → List Trace → NamedPredicate × Answer → Checked → Type 0
IsCheckedFor document traces stands checked =
    IsChecked document.names (events_of_traces traces) (test_of (recorded_of document traces) stands.0.predicate)
    stands.1 checked

-- ---- the finding

abbrev pub names_asked : Document → List (List ℕ)
names_asked document = map (λ (asked : NamedPredicate). asked.name) document.predicates

abbrev pub names_answered : List Answer → List (List ℕ)
names_answered answers = map (λ (answer : Answer). answer.name) answers

-- The verdicts on answers, if their names are those of the document's predicates, in their order.
pub data IsAnswersFinding (document : Document) (traces : List Trace) (answers : List Answer) : Option (List Checked)
    → Type 0 where
  of_other_names : ¬ (names_answered answers ≡ names_asked document) → IsAnswersFinding document traces answers None
  of_verdicts : (verdicts : List Checked) → names_answered answers ≡ names_asked document
      → AllZip (IsCheckedFor document traces) (zip document.predicates answers) verdicts
      → IsAnswersFinding document traces answers (Some verdicts)

-- a document, with what is asked, and the streams hold a well-formed session
pub record IsSessionOf (inquiry : Inquiry) (streams : List RawStream) (document : Document) (traces : List Trace)
    (messages : ℕ) : Type 0 where
  pub read : IsDocument inquiry document
  pub results : List StreamResult
  pub are_results : AreResultsOf document.names streams results
  pub joined : session document.names (length streams) results ≡ Ok traces
  pub formed : IsWellFormed document.version (events_of_traces traces)
  pub counted : HasMessages (events_of_traces traces) messages

-- the report's counts are those of the session
abbrev pub AreCounts : Document → List Trace → (messages processes events matched : ℕ) → Type 0
AreCounts document traces messages processes events matched = (processes ≡ length document.names)
    × (events ≡ total (events_of_traces traces)) × (matched ≡ messages)

-- What a check of a report's bytes finds, if the document, with what is asked, and the streams are these: the report
-- isn't read; the session is refused, and the report is that refusal or not; the session is well formed, and the report
-- is a refusal; or the report's counts and answers are judged.
pub data IsFinding (inquiry : Inquiry) (report : List ℕ) (streams : List RawStream) : Finding → Type 0 where
  of_unread : (line : ℕ) → IsNoReport report line → IsFinding inquiry report streams (NotRead line)
  of_refused_session : (claimed : Report) (refusal : Refusal) (good : Bool) → IsReport report claimed
      → IsJudgement inquiry streams (Refused refusal) → (IsTrue good ↔ (claimed ≡ Refused refusal))
      → IsFinding inquiry report streams (OfRefusal good)
  of_refusal : (refusal : Refusal) (document : Document) (traces : List Trace) (messages : ℕ)
      → IsReport report (Refused refusal) → IsSessionOf inquiry streams document traces messages
      → IsFinding inquiry report streams (OfRefusal false)
  of_session : (processes events matched : ℕ) (answers : List Answer) (document : Document) (traces : List Trace)
      (messages : ℕ) (good : Bool) (found : Option (List Checked))
      → IsReport report (Judged processes events matched answers) → IsSessionOf inquiry streams document traces messages
      → (IsTrue good ↔ AreCounts document traces messages processes events matched)
      → IsAnswersFinding document traces answers found → IsFinding inquiry report streams (OfSession good found)

-- ---- a finding with nothing bad

-- the line's last word is `bad`
abbrev pub EndsBad : List ℕ → Type 0
EndsBad line = (prefix : List ℕ) × (line ≡ prefix ++ codes " bad")

-- the line says that the report isn't read
abbrev pub SaysUnread : List ℕ → Type 0
SaysUnread line = (number : ℕ) × (line ≡ spaced (codes "report" ∷ codes "line" ∷ decimal number ∷ []))

abbrev pub IsCleanLine : List ℕ → Type 0
IsCleanLine line = (¬ EndsBad line) × (¬ SaysUnread line)

-- no line of the finding's text ends with the word `bad`, and none says that the report isn't read
abbrev pub IsClean : Finding → Type 0
IsClean finding = All IsCleanLine (finding_lines finding)

abbrev pub is_bad : Verdict → Bool
is_bad Good = false
is_bad Bad = true
is_bad Unchecked = false

abbrev pub has_bad : Checked → Bool
has_bad checked = is_bad checked.possibly || is_bad checked.definitely

-- whether nothing in the finding is bad
abbrev pub is_clean : Finding → Bool
is_clean (NotRead line) = false
is_clean (OfRefusal good) = good
is_clean (OfSession good None) = false
is_clean (OfSession good (Some verdicts)) = good && not (list_any has_bad verdicts)

-- it is so exactly if its text says so
abbrev pub CleanIsClean : Type 0
CleanIsClean = (finding : Finding) → IsTrue (is_clean finding) ↔ IsClean finding

-- a check finds one thing
abbrev pub OneFinding : Type 0
OneFinding = (inquiry : Inquiry) (report : List ℕ) (streams : List RawStream) (a b : Finding)
    → IsFinding inquiry report streams a
    → IsFinding inquiry report streams b → a ≡ b
