-- What is drawn of a session and a report on it.
use Rattle.std.specs.Prelude.{◌≡◌, ◌<◌, ℕ, true, false, List, Option, Some, None, length, map, slice_get}
use Rattle.def_model.specs.Events.{Place}
use Rattle.def_format.specs.Documents.{Document, NamedPredicate}
use Rattle.def_format.specs.Names.{ProcessNames}
use Rattle.def_format.specs.OtherTexts.{Checked, Finding, OfSession}
use Rattle.def_format.specs.Readings.{Trace}
use Rattle.def_format.specs.Reports.{Answer, Report, Judged}
use Rattle.def_judgement.specs.Judgements.{events_of_traces, recorded_of}
use Rattle.judge_check.specs.Found.{IsFoundOf}
use Rattle.out_picture.specs.Pictures.{IsPicture}
use Rattle.out_picture.specs.declared.evidence.Evidence.{Evidence}
use Rattle.out_svg.specs.declared.drawing.Drawing.{Drawing}
use Rattle.out_picture.specs.Scopes.{Scope}
use Rattle.out_picture.specs.declared.extent.Extent.{Extent}
use Rattle.out_picture.specs.declared.kind.Kind.{Kind}
use Rattle.out_picture.specs.declared.label.NotedPicture.{NotedPicture}
use Rattle.judge_draw.specs.Choices.{LacksEvidence, LacksName, choice, stands_against}
use Rattle.judge_draw.specs.Exhibits.{HasGoodEvidence, Shows, ShowsNothing, run_title, title_text}
use Rattle.judge_draw.specs.declared.choice.Choice.{Choice}
use Rattle.judge_draw.specs.declared.drawn.Drawn.{Drawn}
use Rattle.judge_draw.specs.declared.drawn.Drawn.TheVariants.{Picture, Bad, NoPredicate, NoEvidence, Cycle}
use Rattle.judge_check.specs.Views.{finding_view}
use Rattle.def_model.specs.Predicates.{Recorded}
use Rattle.judge_draw.specs.declared.choice.Choice.TheVariants.{Alone, Of, Unknown, Lacking}

-- the evidence of the predicate with this number, of this kind if one is asked for, and the title of its picture
pub record ShowsPredicate (kind : Option Kind) (document : Document) (traces : List Trace) (answers : List Answer)
    (i : ℕ) (evidence : Evidence) (title : List ℕ) : Type 0 where
  pub asked : NamedPredicate
  pub is_asked : slice_get document.predicates i ≡ Some asked
  pub answer : Answer
  pub is_answer : slice_get answers i ≡ Some answer
  pub shows : Shows kind document.names (recorded_of document traces) asked.predicate answer evidence
  pub is_title : title ≡ title_text asked.name answer.possibly answer.definitely

-- the evidence that is drawn by this choice, and the title of its picture
abbrev pub ShowsChoice : Option Kind → Document → List Trace → List Answer → Choice → Evidence → (title : List ℕ)
    → Type 0
ShowsChoice kind document traces answers Alone evidence title = ShowsNothing evidence × (title ≡ run_title)
ShowsChoice kind document traces answers (Of i) evidence title =
    ShowsPredicate kind document traces answers i evidence title
ShowsChoice kind document traces answers _ evidence title = ⊥

abbrev pub process_names : Document → List (List ℕ)
process_names document = map (λ (process : ProcessNames). process.name) document.names

-- The picture of a session with this evidence and this title. The pairs are the sends and the receipts of its messages.
pub record IsPictureOf (document : Document) (traces : List Trace) (pairs : List (Place × Place))
    (ShowsIt : Evidence → (title : List ℕ) → Type 0) (extent : Extent) (drawing : Drawing) : Type 0 where
  pub evidence : Evidence
  pub title : List ℕ
  pub shows : ShowsIt evidence title
  pub is_picture : IsPicture (events_of_traces traces) pairs (process_names document) title evidence extent drawing

-- The picture of a session and a report on it: nothing stands against it in what a check finds; the run is that of the
-- session, and the evidence is that of the predicate of the name that is asked for, or without a name of the first with
-- evidence; of the kind that is asked for, if one is.
pub record IsDrawn (document : Document) (traces : List Trace) (pairs : List (Place × Place)) (messages : ℕ)
    (claimed : Report) (scope : Scope) (drawing : Drawing) : Type 0 where
  pub processes : ℕ
  pub events : ℕ
  pub matched : ℕ
  pub answers : List Answer
  pub is_judged : claimed ≡ Judged processes events matched answers
  pub checked : List Checked
  pub found : IsFoundOf document traces messages claimed (OfSession true (Some checked))
  pub stands : stands_against scope (OfSession true (Some checked)) ≡ false
  pub shows : IsPictureOf document traces pairs
      (ShowsChoice scope.kind document traces answers (choice scope checked)) scope.extent drawing

-- the finding, which stands against a picture
pub record IsUndrawn (document : Document) (traces : List Trace) (messages : ℕ) (claimed : Report)
    (scope : Scope) (finding : Finding) : Type 0 where
  pub found : IsFoundOf document traces messages claimed finding
  pub stands : stands_against scope finding ≡ true

-- nothing else stands against a picture, but there is no predicate of this name
pub record IsUnknown (document : Document) (traces : List Trace) (messages : ℕ) (claimed : Report) (scope : Scope) :
    Type 0 where
  pub checked : List Checked
  pub found : IsFoundOf document traces messages claimed (OfSession true (Some checked))
  pub is_unknown : LacksName scope checked

-- nothing else stands against a picture, but there is no evidence of the kind that is asked for
pub record IsLacking (document : Document) (traces : List Trace) (messages : ℕ) (claimed : Report) (scope : Scope) :
    Type 0 where
  pub checked : List Checked
  pub found : IsFoundOf document traces messages claimed (OfSession true (Some checked))
  pub is_lacking : LacksEvidence scope checked

-- what comes of it: the picture, or what stands against it
abbrev pub Comes : Document → List Trace → (pairs : List (Place × Place)) → (messages : ℕ) → Report → Scope → Drawn
    → Type 0
Comes document traces pairs messages claimed scope (Picture picture) =
    IsDrawn document traces pairs messages claimed scope picture.drawing
Comes document traces pairs messages claimed scope (Bad finding) =
    IsUndrawn document traces messages claimed scope (finding_view finding)
Comes document traces pairs messages claimed scope NoPredicate = IsUnknown document traces messages claimed scope
Comes document traces pairs messages claimed scope NoEvidence = IsLacking document traces messages claimed scope
Comes document traces pairs messages claimed scope (Cycle picture) = ⊥

-- ---- on the way

-- the finding lets this choice be drawn, or it stands against the picture
abbrev pub IsLetBy : Scope → Finding → Option Choice → Type 0
IsLetBy scope finding None = stands_against scope finding ≡ true
IsLetBy scope finding (Some chosen) =
    (checked : List Checked) × (finding ≡ OfSession true (Some checked)) × (stands_against scope finding ≡ false)
    × (chosen ≡ choice scope checked)

-- the evidence of the answer with this number shows what it is printed for
pub record IsGoodAt (document : Document) (recorded : Recorded) (answers : List Answer) (i : ℕ) : Type 0 where
  pub asked_there : i < length document.predicates
  pub answer_there : i < length answers
  pub good : (asked : NamedPredicate) (answer : Answer) → slice_get document.predicates i ≡ Some asked
      → slice_get answers i ≡ Some answer → HasGoodEvidence document.names recorded asked.predicate answer

-- what the choice draws is good
abbrev pub IsGoodChoice : Document → Recorded → List Answer → Choice → Type 0
IsGoodChoice document recorded answers Alone = Unit {0}
IsGoodChoice document recorded answers (Of i) = IsGoodAt document recorded answers i
IsGoodChoice document recorded answers Unknown = Unit {0}
IsGoodChoice document recorded answers Lacking = Unit {0}

-- the picture by this choice; there is none of a predicate that isn't there
abbrev pub IsChosenPicture : Document → List Trace → (pairs : List (Place × Place)) → List Answer → Scope → Choice
    → Option NotedPicture → Type 0
IsChosenPicture document traces pairs answers scope chosen None = chosen ≡ Unknown
IsChosenPicture document traces pairs answers scope chosen (Some picture) =
    IsPictureOf document traces pairs (ShowsChoice scope.kind document traces answers chosen) scope.extent
    picture.drawing

-- the report has these answers
pub record IsJudged (claimed : Report) (answers : List Answer) : Type 0 where
  pub processes : ℕ
  pub events : ℕ
  pub matched : ℕ
  pub is : claimed ≡ Judged processes events matched answers

-- the finding is that of a report with these answers
pub record IsFoundFor (document : Document) (traces : List Trace) (answers : List Answer) (finding : Finding) :
    Type 0 where
  pub messages : ℕ
  pub claimed : Report
  pub judged : IsJudged claimed answers
  pub found : IsFoundOf document traces messages claimed finding
