-- What the text of a picture shows of a session, of a report on it, and of a predicate's evidence.
use Rattle.std.specs.Prelude.{◌≡◌, ◌≢◌, ◌⊎◌, ℕ, true, false, Contains, List, length, map, Option, Some, None, Ok, slice_get}
use Rattle.std.specs.List.{AllZip}
use Rattle.def_model.specs.Answers.{IsAvoidingObservation, cuts_along}
use Rattle.def_model.specs.Cuts.{empty_cut}
use Rattle.def_model.specs.Events.{Place}
use Rattle.def_model.specs.Messages.{IsMessageList}
use Rattle.def_model.specs.Observations.{IsObservation}
use Rattle.def_model.specs.Predicates.{Predicate, Recorded, test_of}
use Rattle.def_format.specs.Documents.{Document, Inquiry, IsDocument, NamedPredicate}
use Rattle.def_format.specs.Names.{ProcessNames, name_of_process}
use Rattle.def_format.specs.OtherTexts.{Checked, OfSession}
use Rattle.def_format.specs.Readings.{Trace}
use Rattle.def_format.specs.RefusalWords.{named_place}
use Rattle.def_format.specs.Reports.{Answer, Definitely, IsReport, Judged, NamedPlace, Possibly, Refused}
use Rattle.def_format.specs.Reports as reports
use Rattle.def_format.specs.Sessions.{StreamResult, session}
use Rattle.def_judgement.specs.Findings.{IsGoodCut, IsSessionOf}
use Rattle.def_judgement.specs.Judgements.{AreResultsOf, IsTracesReport, RawStream, events_of_traces, recorded_of}
use Rattle.def_judgement.specs.Writes.{IsGivenAs, Source}
use Rattle.out_svg.specs.Svg.{drawing_text}
use Rattle.out_svg.specs.declared.drawing.Drawing.{Drawing}
use Rattle.out_picture.specs.Scopes.{Scope}
use Rattle.out_picture.specs.declared.evidence.Evidence.{Evidence}
use Rattle.out_picture.specs.declared.evidence.Evidence.TheVariants.{Absent, Cut, Observation}
use Rattle.out_picture.specs.declared.extent.Extent.{Extent}
use Rattle.out_picture.specs.declared.kind.Kind.{Kind}
use Rattle.out_picture.specs.declared.kind.Kind.TheVariants as kinds
use Rattle.judge_check.specs.Found.{IsFoundOf}
use Rattle.judge_draw.specs.Choices.{choice, stands_against}
use Rattle.judge_draw.specs.Drawn.{process_names}
use Rattle.judge_draw.specs.declared.choice.Choice.{Choice}
use Rattle.judge_draw.specs.declared.choice.Choice.TheVariants.{Alone, Of}
use Rattle.out_picture.specs.Shown.{ShowsCycle, ShowsPicture}

-- ---- evidence

-- the answer has a cut, or the path of an observation
abbrev pub HasCut : Answer → Type 0
HasCut answer = (cut : List ℕ) × (answer.possibly ≡ Possibly.Yes cut)

abbrev pub HasPath : Answer → Type 0
HasPath answer = (reported : List (List ℕ)) × (answer.definitely ≡ Definitely.No reported)

-- The evidence is that of this answer on this predicate, of the kind that is asked for, and shows what it is printed
-- for: the cut is consistent and satisfies, and lies on the observation whose steps are shown; or the steps are those
-- of an observation with no satisfying cut. With no kind asked for, a cut comes first. Nothing is shown only if there
-- is no such evidence.
abbrev pub IsEvidenceOf : Option Kind → List ProcessNames → Recorded → Predicate → Answer → Evidence → Type 0
IsEvidenceOf kind names recorded predicate answer Absent =
    (kind ≢ Some kinds.Definitely → ¬ HasCut answer) × (kind ≢ Some kinds.Possibly → ¬ HasPath answer)
IsEvidenceOf kind names recorded predicate answer (Cut counts values path) =
    (kind ≢ Some kinds.Definitely) × (answer.possibly ≡ Possibly.Yes counts.items)
    × IsGoodCut recorded.events (test_of recorded predicate) counts.items
    × IsObservation recorded.events (cuts_along (empty_cut recorded.events) path.items)
    × Contains (cuts_along (empty_cut recorded.events) path.items) counts.items
IsEvidenceOf kind names recorded predicate answer (Observation path) =
    (kind ≢ Some kinds.Possibly) × (kind ≡ None → ¬ HasCut answer)
    × (answer.definitely ≡ Definitely.No (map (name_of_process names) path.items))
    × IsAvoidingObservation recorded.events (test_of recorded predicate) path.items

-- the evidence is that of the predicate that is chosen
abbrev pub IsEvidenceBy : Option Kind → Document → List Trace → List Answer → Choice → Evidence → Type 0
IsEvidenceBy kind document traces answers (Of i) evidence =
    (asked : NamedPredicate) × (slice_get document.predicates i ≡ Some asked)
    × (answer : Answer) × (slice_get answers i ≡ Some answer)
    × IsEvidenceOf kind document.names (recorded_of document traces) asked.predicate answer evidence
IsEvidenceBy kind document traces answers chosen evidence = (chosen ≡ Alone) × (evidence ≡ Absent)

-- ---- texts

-- The text is that of a picture of a session and a report on it, against which nothing stands: it shows the session's
-- run, and the evidence of the predicate that is asked for.
pub record ShowsSession (inquiry : Inquiry) (report : List ℕ) (inputs : List Source) (scope : Scope) (text : List ℕ) :
    Type 0 where
  pub streams : List RawStream
  pub are_given : AllZip IsGivenAs inputs streams
  pub document : Document
  pub traces : List Trace
  pub messages : ℕ
  pub held : IsSessionOf inquiry streams document traces messages
  pub pairs : List (Place × Place)
  pub are_pairs : IsMessageList (events_of_traces traces) pairs
  pub processes : ℕ
  pub events : ℕ
  pub matched : ℕ
  pub answers : List Answer
  pub read : IsReport report (Judged processes events matched answers)
  pub checked : List Checked
  pub found : IsFoundOf document traces messages (Judged processes events matched answers)
      (OfSession true (Some checked))
  pub stands : stands_against scope (OfSession true (Some checked)) ≡ false
  pub evidence : Evidence
  pub is_evidence : IsEvidenceBy scope.kind document traces answers (choice scope checked) evidence
  pub drawing : Drawing
  pub shows : ShowsPicture (events_of_traces traces) pairs (process_names document) evidence scope.extent drawing
  pub is_text : text ≡ drawing_text drawing

-- The text is that of a picture of a session that is refused for a causal cycle, as the report says: it shows the
-- session's run, and the cycle that the report names.
pub record ShowsRefusal (inquiry : Inquiry) (report : List ℕ) (inputs : List Source) (extent : Extent)
    (text : List ℕ) : Type 0 where
  pub streams : List RawStream
  pub are_given : AllZip IsGivenAs inputs streams
  pub document : Document
  pub is_document : IsDocument inquiry document
  pub results : List StreamResult
  pub are_results : AreResultsOf document.names streams results
  pub traces : List Trace
  pub joined : session document.names (length streams) results ≡ Ok traces
  pub cycle : List Place
  pub read : IsReport report (Refused (reports.Cycle (map (named_place document.names) cycle)))
  pub refused : IsTracesReport document traces (Refused (reports.Cycle (map (named_place document.names) cycle)))
  pub pairs : List (Place × Place)
  pub are_pairs : IsMessageList (events_of_traces traces) pairs
  pub drawing : Drawing
  pub shows : ShowsCycle (events_of_traces traces) pairs (process_names document) cycle extent drawing
  pub is_text : text ≡ drawing_text drawing

-- one or the other
abbrev pub ShowsAny : (inquiry : Inquiry) (report : List ℕ) (inputs : List Source) (scope : Scope) → (text : List ℕ)
    → Type 0
ShowsAny inquiry report inputs scope text =
    ShowsSession inquiry report inputs scope text ⊎ ShowsRefusal inquiry report inputs scope.extent text
