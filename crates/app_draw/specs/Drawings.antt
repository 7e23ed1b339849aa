-- What a run that draws leaves on its output and on its errors.
use Rattle.std.specs.Prelude.{◌≡◌, ◌≤◌, ◌⊎◌, ℕ, false, true, All, List, [], ◌∷◌, ◌++◌, codes, length, map, Option, Some, Result, Ok, Err, IsOkAnd}
use Rattle.std.specs.Io.KnownBytes.{Keeps}
use Rattle.def_format.specs.Documents.{Document, Inquiry, IsDocument, Options}
use Rattle.def_format.specs.Limits.{report_byte_limit, stream_byte_limit}
use Rattle.def_format.specs.Reports.{Report}
use Rattle.app_arguments.specs.Statuses.{File, MayBeUnread, OfClaim, OfDocument, WritesUpTo, line_of_failure, sources_of, status_of_failure}
use Rattle.def_judgement.specs.Writes.{IsAnyReport, IsRefused, IsTextOfStreams, Source, Whole, Writes}
use Rattle.judge_session.specs.Unanswered.{NamesNoCycle}
use Rattle.out_picture.specs.Scopes.{Scope}
use Rattle.judge_draw.specs.Drawings.{IsAnyTextOf, IsCycleTextOf, IsDrawingTextOf, IsRefusalTextOf, LacksKind, LacksPredicate}
use Rattle.judge_draw.specs.declared.drawings.DrawOutcome.{DrawOutcome}
use Rattle.judge_draw.specs.declared.drawings.DrawOutcome.TheVariants.{Written, CycleWritten, Refused, NoPredicate, NoEvidence}
use Rattle.judge_session.specs.declared.fault.EngineFault.{EngineFault}
use Rattle.judge_session.specs.declared.fault.EngineFault.TheVariants.{Memory, Write, Read}
use Rattle.app_host.specs.Faults.{failure_view}

-- the line above what a check finds
abbrev pub refusal_heading : List ℕ
refusal_heading = codes "monitor: no picture, for a check finds:\n"

-- what is reported of a check's finding that stands against the picture: a line, and the text of what it finds
pub record IsNoticeOf (document : Inquiry) (report : List ℕ) (streams : List Source) (scope : Scope)
    (notice : List ℕ) : Type 0 where
  pub found : List ℕ
  pub is_against : IsRefusalTextOf document report streams scope found
  pub is_notice : notice ≡ refusal_heading ++ found

-- there is no picture, and this is reported
abbrev pub IsRefusedBy : (text : List ℕ) → DrawOutcome → Type 0
IsRefusedBy text (Refused notice) = notice.items ≡ text
IsRefusedBy text _ = ⊥

-- The picture is written of a document, a report in these bytes and streams, that of a cycle too: its whole text, with
-- labels if there are notes. The output fails: that text or a prefix of it. Something stands against the picture:
-- nothing.
abbrev pub DrawsReport : (report : List ℕ) (streams : List Source) (scope : Scope) → Inquiry
    → Result DrawOutcome EngineFault → (old new : Option (List ℕ)) → Type 0
DrawsReport report streams scope inquiry (Ok Written) old new =
    Writes (IsDrawingTextOf inquiry report streams scope true) Whole old new
DrawsReport report streams scope inquiry (Ok CycleWritten) old new =
    Writes (IsCycleTextOf inquiry report streams scope.extent true) Whole old new
DrawsReport report streams scope inquiry (Ok (Refused notice)) old new =
    IsNoticeOf inquiry report streams scope notice.items × Keeps old new
DrawsReport report streams scope inquiry (Ok NoPredicate) old new =
    LacksPredicate inquiry report streams scope × Keeps old new
DrawsReport report streams scope inquiry (Ok NoEvidence) old new =
    LacksKind inquiry report streams scope × Keeps old new
DrawsReport report streams scope inquiry (Err Write) old new =
    WritesUpTo (IsAnyTextOf inquiry report streams scope true) old new
DrawsReport report streams scope inquiry _ old new = ⊥

-- All of this source can surely be read, and it isn't more than this many bytes.
pub record IsSurelyRead (limit : ℕ) (source : Source) : Type 0 where
  pub ends : source.fails ≡ Some false
  pub bytes : List ℕ
  pub known : source.bytes ≡ Some bytes
  pub fits : length bytes ≤ limit

-- a report of this source is drawn, or it can't be read or is too long
abbrev pub OfDrawing : (report : Source) (streams : List Source) (scope : Scope) → Inquiry
    → Result DrawOutcome EngineFault → (old new : Option (List ℕ)) → Type 0
OfDrawing report streams scope inquiry (Err Read) old new = ¬ IsSurelyRead report_byte_limit report × Keeps old new
OfDrawing report streams scope inquiry ending old new =
    OfClaim report (λ bytes. DrawsReport bytes streams scope inquiry ending old new)

-- ---- a session that is judged first

-- the line above the report of a session that is refused
abbrev pub session_heading : List ℕ
session_heading = codes "monitor: no picture, for the session is refused:\n"

-- the report is a refusal, and for no causal cycle, of which there is a picture
abbrev pub IsUndrawn : Report → Type 0
IsUndrawn report = IsRefused report × NamesNoCycle report

-- the session is refused, and its report is reported after a line; or the report is drawn
abbrev pub DrawsDue : (report : List ℕ) (streams : List Source) (scope : Scope) → Inquiry
    → Result DrawOutcome EngineFault → (old new : Option (List ℕ)) → Type 0
DrawsDue report streams scope inquiry ending old new =
    IsTextOfStreams inquiry streams IsUndrawn report × IsOkAnd ending (IsRefusedBy (session_heading ++ report))
    × Keeps old new
    ⊎ DrawsReport report streams scope inquiry ending old new

-- The report that is due of a document and streams is drawn.
pub record DrawsOwn (streams : List Source) (scope : Scope) (inquiry : Inquiry)
    (ending : Result DrawOutcome EngineFault) (old new : Option (List ℕ)) : Type 0 where
  pub report : List ℕ
  pub is_due : IsTextOfStreams inquiry streams IsAnyReport report
  pub drawn : DrawsDue report streams scope inquiry ending old new

-- the same, or a stream can't be read or is too long
abbrev pub OfOwnDrawing : (streams : List Source) (scope : Scope) → Inquiry → Result DrawOutcome EngineFault
    → (old new : Option (List ℕ)) → Type 0
OfOwnDrawing streams scope inquiry (Err Read) old new =
    ¬ All (IsSurelyRead stream_byte_limit) streams × Keeps old new
OfOwnDrawing streams scope inquiry ending old new = DrawsOwn streams scope inquiry ending old new

-- ---- the files beside a document

-- This many files are streams alone: as many as the document has processes are, and so is one.
abbrev pub AreStreams : Inquiry → (count : ℕ) → Type 0
AreStreams inquiry count =
    (count ≤ 1) ⊎ (document : Document) × IsDocument inquiry document × (count ≡ length document.names)

-- the first of these files is a report, and the others are streams
abbrev pub OfClaimed : (files : List Source) (scope : Scope) → Inquiry → Result DrawOutcome EngineFault
    → (old new : Option (List ℕ)) → Type 0
OfClaimed [] scope inquiry ending old new = ⊥
OfClaimed (report ∷ streams) scope inquiry ending old new = OfDrawing report streams scope inquiry ending old new

-- These files are streams alone, whose session is judged and drawn; or they are a report, which is drawn, and streams.
abbrev pub OfFiles : (files : List Source) (scope : Scope) → Inquiry → Result DrawOutcome EngineFault
    → (old new : Option (List ℕ)) → Type 0
OfFiles files scope inquiry ending old new =
    AreStreams inquiry (length files) × OfOwnDrawing files scope inquiry ending old new
    ⊎ (¬ AreStreams inquiry (length files)) × OfClaimed files scope inquiry ending old new

-- What a call leaves to which the document was handed: nothing if memory runs out, and else what P says.
abbrev pub DrawReadLeaves : (P : Result DrawOutcome EngineFault → (old new : Option (List ℕ)) → Type 0)
    → Result DrawOutcome EngineFault → (old new : Option (List ℕ)) → Type 0
DrawReadLeaves P (Err Memory) old new = Keeps old new
DrawReadLeaves P ending old new = P ending old new

-- What is left of a run whose document stands in this file: nothing if memory runs out, nothing if a file can't be
-- opened or the document not be read, which is so only if that may be, and else what P says of the document with what
-- is asked.
abbrev pub DrawLeaves : (options : Options) (document : File) (IsUnread : Type 0)
    (P : Inquiry → Result DrawOutcome EngineFault → (old new : Option (List ℕ)) → Type 0)
    → Result DrawOutcome EngineFault → (old new : Option (List ℕ)) → Type 0
DrawLeaves options document IsUnread P (Err Memory) old new = Keeps old new
DrawLeaves options document IsUnread P (Err Read) old new =
    IsUnread × Keeps old new ⊎ OfDocument options document (λ inquiry. P inquiry (Err Read) old new)
DrawLeaves options document IsUnread P ending old new =
    OfDocument options document (λ inquiry. P inquiry ending old new)

-- how a drawing ends after the flush: a picture stays written, and of a finding its notice is made
abbrev pub Finishes : DrawOutcome → Result DrawOutcome EngineFault → (middle new : Option (List ℕ)) → Type 0
Finishes Written result middle new = ((result ≡ Ok Written) ⊎ (result ≡ Err Write)) × Keeps middle new
Finishes CycleWritten result middle new =
    ((result ≡ Ok CycleWritten) ⊎ (result ≡ Err Write)) × Keeps middle new
Finishes (Refused found) result middle new =
    ((result ≡ Err Memory) ⊎ IsOkAnd result (IsRefusedBy (refusal_heading ++ found.items))) × Keeps middle new
Finishes NoPredicate result middle new = (result ≡ Ok NoPredicate) × Keeps middle new
Finishes NoEvidence result middle new = (result ≡ Ok NoEvidence) × Keeps middle new

-- the exit status
abbrev pub draw_status : Result DrawOutcome EngineFault → ℕ
draw_status (Ok (Refused notice)) = 1
draw_status (Ok NoPredicate) = 2
draw_status (Ok NoEvidence) = 2
draw_status (Err fault) = status_of_failure (failure_view fault)
draw_status _ = 0

-- what is reported
abbrev pub draw_notice : Result DrawOutcome EngineFault → List ℕ
draw_notice (Ok (Refused notice)) = notice.items
draw_notice (Ok NoPredicate) = codes "monitor: no predicate of this name\n"
draw_notice (Ok NoEvidence) = codes "monitor: no evidence of this kind\n"
draw_notice (Err fault) = line_of_failure (failure_view fault)
draw_notice _ = []

-- A run that draws came to some end, by which this is left on the output and on the errors.
pub record EndsDrawn (files : List ℕ → File) (options : Options) (document : List ℕ) (others : List (List ℕ))
    (scope : Scope) (status : ℕ) (old new errors_old errors_new : Option (List ℕ)) : Type 0 where
  pub ending : Result DrawOutcome EngineFault
  pub is_status : status ≡ draw_status ending
  pub output : DrawLeaves options (files document)
      (MayBeUnread (files document ∷ map files others) (files document ∷ []))
      (OfFiles (sources_of (map files others)) scope) ending old new
  pub errors : WritesUpTo (λ text. text ≡ draw_notice ending) errors_old errors_new
