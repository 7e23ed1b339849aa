-- What is drawn by a document's bytes, a report's bytes and the streams that readers gave.
use Rattle.std.specs.Prelude.{◌≡◌, ◌≢◌, ◌⊎◌, ℕ, Bool, true, List, length, Option, Some, Result, Ok, Err}
use Rattle.std.specs.Io.KnownBytes.{Keeps}
use Rattle.std.specs.List.{AllZip}
use Rattle.def_model.specs.Events.{Place}
use Rattle.def_model.specs.Messages.{HasMessages, IsMessageList}
use Rattle.def_model.specs.Order.{IsWellFormed}
use Rattle.def_format.specs.Documents.{Document, IsDocument, Inquiry}
use Rattle.def_format.specs.OtherTexts.{Checked, Finding, OfRefusal, OfSession, check_text}
use Rattle.def_format.specs.Readings.{Trace}
use Rattle.def_format.specs.Reports.{IsReport, NamedPlace, Refusal, Report}
use Rattle.def_format.specs.Reports as reports
use Rattle.def_format.specs.Sessions.{StreamResult, session}
use Rattle.def_judgement.specs.Findings.{IsFinding, IsSessionOf}
use Rattle.def_judgement.specs.Judgements.{AreResultsOf, IsTracesReport, RawStream, events_of_traces}
use Rattle.def_judgement.specs.Writes.{IsGivenAs, Whole, Writes, Source}
use Rattle.judge_check.specs.Views.{finding_view}
use Rattle.out_svg.specs.Svg.{drawing_text}
use Rattle.out_svg.specs.declared.drawing.Drawing.{Drawing as Picture}
use Rattle.out_picture.specs.Notes.{AddsNotes}
use Rattle.out_picture.specs.Scopes.{Scope}
use Rattle.out_picture.specs.declared.extent.Extent.{Extent}
use Rattle.judge_draw.specs.Choices.{LacksEvidence, LacksName, stands_against}
use Rattle.judge_draw.specs.Cycles.{IsRefusalDrawn}
use Rattle.judge_draw.specs.Drawn.{Comes, IsDrawn}
use Rattle.judge_draw.specs.declared.drawn.Drawn.{Drawn}
use Rattle.judge_draw.specs.declared.drawn.Drawn.TheVariants as drawn
use Rattle.judge_session.specs.Ends.{fault_end}
use Rattle.judge_draw.specs.declared.drawings.DrawOutcome.{DrawOutcome}
use Rattle.judge_draw.specs.declared.drawings.DrawOutcome.TheVariants.{Written, CycleWritten, Refused, NoPredicate, NoEvidence}
use Rattle.judge_session.specs.declared.fault.EngineFault.{EngineFault}

-- what comes of the traces of a well-formed session and a report on it
pub record DrawsFormed (document : Document) (traces : List Trace) (claimed : Report) (scope : Scope)
    (given : Drawn) : Type 0 where
  pub messages : ℕ
  pub formed : IsWellFormed document.version (events_of_traces traces)
  pub counted : HasMessages (events_of_traces traces) messages
  pub pairs : List (Place × Place)
  pub are_pairs : IsMessageList (events_of_traces traces) pairs
  pub comes : Comes document traces pairs messages claimed scope given

-- the picture of traces that are refused for a causal cycle, as the report says
pub record DrawsCycle (document : Document) (traces : List Trace) (claimed : Report) (extent : Extent)
    (picture : Picture) : Type 0 where
  pub refusal : Refusal
  pub is_claimed : claimed ≡ reports.Refused refusal
  pub refused : IsTracesReport document traces (reports.Refused refusal)
  pub pairs : List (Place × Place)
  pub are_pairs : IsMessageList (events_of_traces traces) pairs
  pub drawn : IsRefusalDrawn document (events_of_traces traces) pairs refusal extent picture

-- if the report is the one that is due, it isn't the refusal of a causal cycle, of which there is a picture
abbrev pub NeedsNoPicture : (claimed due : Report) → Type 0
NeedsNoPicture claimed due =
    claimed ≡ due → (places : List NamedPlace) → due ≢ reports.Refused (reports.Cycle places)

-- what comes of a session's traces and a report on it
abbrev pub DrawsTraces : (document : Document) (traces : List Trace) (claimed : Report) (scope : Scope) → Drawn
    → Type 0
DrawsTraces document traces claimed scope (drawn.Picture picture) =
    DrawsFormed document traces claimed scope (drawn.Picture picture)
DrawsTraces document traces claimed scope (drawn.Bad finding) =
    DrawsFormed document traces claimed scope (drawn.Bad finding)
DrawsTraces document traces claimed scope drawn.NoPredicate =
    DrawsFormed document traces claimed scope drawn.NoPredicate
DrawsTraces document traces claimed scope drawn.NoEvidence = DrawsFormed document traces claimed scope drawn.NoEvidence
DrawsTraces document traces claimed scope (drawn.Cycle picture) =
    DrawsCycle document traces claimed scope.extent picture.drawing

-- the picture of the session that the streams hold which these sources gave, and of the report in these bytes
pub record IsPictureOf (inquiry : Inquiry) (report : List ℕ) (inputs : List Source)
    (scope : Scope) (picture : Picture) : Type 0 where
  pub streams : List RawStream
  pub are_given : AllZip IsGivenAs inputs streams
  pub document : Document
  pub traces : List Trace
  pub messages : ℕ
  pub held : IsSessionOf inquiry streams document traces messages
  pub pairs : List (Place × Place)
  pub are_pairs : IsMessageList (events_of_traces traces) pairs
  pub claimed : Report
  pub read : IsReport report claimed
  pub drawn : IsDrawn document traces pairs messages claimed scope picture

-- The picture of a session that is refused for a causal cycle, as the report in these bytes says, of the streams that
-- these sources gave.
pub record IsPictureOfCycle (inquiry : Inquiry) (report : List ℕ) (inputs : List Source)
    (extent : Extent) (picture : Picture) : Type 0 where
  pub streams : List RawStream
  pub are_given : AllZip IsGivenAs inputs streams
  pub document : Document
  pub is_document : IsDocument inquiry document
  pub results : List StreamResult
  pub are_results : AreResultsOf document.names streams results
  pub traces : List Trace
  pub joined : session document.names (length streams) results ≡ Ok traces
  pub claimed : Report
  pub read : IsReport report claimed
  pub draws : DrawsCycle document traces claimed extent picture

-- What a check finds, which stands against a picture. It isn't that the session is refused for a causal cycle as the
-- report says: that cycle is drawn.
pub record IsAgainst (inquiry : Inquiry) (report : List ℕ) (inputs : List Source)
    (scope : Scope) (finding : Finding) : Type 0 where
  pub streams : List RawStream
  pub are_given : AllZip IsGivenAs inputs streams
  pub right : IsFinding inquiry report streams finding
  pub stands : stands_against scope finding ≡ true
  pub undrawn : finding ≡ OfRefusal true → (places : List NamedPlace)
      → ¬ IsReport report (reports.Refused (reports.Cycle places))

-- a check finds verdicts on predicates of which none has this name
pub record LacksPredicate (inquiry : Inquiry) (report : List ℕ) (inputs : List Source)
    (scope : Scope) : Type 0 where
  pub streams : List RawStream
  pub are_given : AllZip IsGivenAs inputs streams
  pub checked : List Checked
  pub right : IsFinding inquiry report streams (OfSession true (Some checked))
  pub is_unknown : LacksName scope checked

-- a check finds verdicts on predicates without evidence of the kind that is asked for
pub record LacksKind (inquiry : Inquiry) (report : List ℕ) (inputs : List Source) (scope : Scope) :
    Type 0 where
  pub streams : List RawStream
  pub are_given : AllZip IsGivenAs inputs streams
  pub checked : List Checked
  pub right : IsFinding inquiry report streams (OfSession true (Some checked))
  pub is_lacking : LacksEvidence scope checked

abbrev pub Draws : (inquiry : Inquiry) (report : List ℕ) (inputs : List Source)
    (scope : Scope) → Drawn → Type 0
Draws inquiry report inputs scope (drawn.Picture picture) =
    IsPictureOf inquiry report inputs scope picture.drawing
Draws inquiry report inputs scope (drawn.Bad finding) =
    IsAgainst inquiry report inputs scope (finding_view finding)
Draws inquiry report inputs scope drawn.NoPredicate = LacksPredicate inquiry report inputs scope
Draws inquiry report inputs scope drawn.NoEvidence = LacksKind inquiry report inputs scope
Draws inquiry report inputs scope (drawn.Cycle picture) =
    IsPictureOfCycle inquiry report inputs scope.extent picture.drawing

-- the same of any bytes that are this report
abbrev pub DrawsOf : (inquiry : Inquiry) (claimed : Report) (inputs : List Source)
    (scope : Scope) → Drawn → Type 0
DrawsOf inquiry claimed inputs scope given =
    (report : List ℕ) → IsReport report claimed → Draws inquiry report inputs scope given

-- ---- what is written, and what is given

-- the text of a picture, which has labels over its shapes if it is noted
pub record IsTextWithNotes (is_noted : Bool) (picture : Picture) (text : List ℕ) : Type 0 where
  pub drawing : Picture
  pub adds : AddsNotes is_noted picture drawing
  pub is_text : text ≡ drawing_text drawing

-- the text of the picture
pub record IsDrawingTextOf (inquiry : Inquiry) (report : List ℕ) (inputs : List Source)
    (scope : Scope) (is_noted : Bool) (text : List ℕ) : Type 0 where
  pub picture : Picture
  pub is_picture : IsPictureOf inquiry report inputs scope picture
  pub has_text : IsTextWithNotes is_noted picture text

-- the text of what a check finds, which stands against a picture
pub record IsRefusalTextOf (inquiry : Inquiry) (report : List ℕ) (inputs : List Source)
    (scope : Scope) (text : List ℕ) : Type 0 where
  pub finding : Finding
  pub is_against : IsAgainst inquiry report inputs scope finding
  pub is_text : text ≡ check_text finding

-- the text of the picture of a cycle
pub record IsCycleTextOf (inquiry : Inquiry) (report : List ℕ) (inputs : List Source)
    (extent : Extent) (is_noted : Bool) (text : List ℕ) : Type 0 where
  pub picture : Picture
  pub is_picture : IsPictureOfCycle inquiry report inputs extent picture
  pub has_text : IsTextWithNotes is_noted picture text

-- the text of one picture or of the other
abbrev pub IsAnyTextOf : (inquiry : Inquiry) (report : List ℕ) (inputs : List Source)
    (scope : Scope) (is_noted : Bool) → (text : List ℕ) → Type 0
IsAnyTextOf inquiry report inputs scope is_noted text =
    IsDrawingTextOf inquiry report inputs scope is_noted text
    ⊎ IsCycleTextOf inquiry report inputs scope.extent is_noted text

-- what is left on the output
abbrev pub WritesPicture : (inquiry : Inquiry) (report : List ℕ) (inputs : List Source)
    (scope : Scope) (is_noted : Bool) → Result DrawOutcome EngineFault → (old new : Option (List ℕ)) → Type 0
WritesPicture inquiry report inputs scope is_noted (Ok Written) old new =
    Writes (IsDrawingTextOf inquiry report inputs scope is_noted) Whole old new
WritesPicture inquiry report inputs scope is_noted (Ok CycleWritten) old new =
    Writes (IsCycleTextOf inquiry report inputs scope.extent is_noted) Whole old new
WritesPicture inquiry report inputs scope is_noted (Ok (Refused text)) old new = Keeps old new
WritesPicture inquiry report inputs scope is_noted (Ok NoPredicate) old new = Keeps old new
WritesPicture inquiry report inputs scope is_noted (Ok NoEvidence) old new = Keeps old new
WritesPicture inquiry report inputs scope is_noted (Err fault) old new =
    Writes (IsAnyTextOf inquiry report inputs scope is_noted) (fault_end fault) old new

-- what stands against the picture, if none is written
abbrev pub ShowsEnd : (inquiry : Inquiry) (report : List ℕ) (inputs : List Source)
    (scope : Scope) → DrawOutcome → Type 0
ShowsEnd inquiry report inputs scope Written = Unit {0}
ShowsEnd inquiry report inputs scope CycleWritten = Unit {0}
ShowsEnd inquiry report inputs scope (Refused text) =
    IsRefusalTextOf inquiry report inputs scope text.items
ShowsEnd inquiry report inputs scope NoPredicate = LacksPredicate inquiry report inputs scope
ShowsEnd inquiry report inputs scope NoEvidence = LacksKind inquiry report inputs scope
