-- What a run that draws leaves, by what its picture shows. How the picture looks is left open; of the exact text speak
-- the contracts of the calls by which it is written, and the definitions beside this file, `Drawings`.
use Rattle.std.specs.Prelude.{◌≡◌, ◌⊎◌, ℕ, All, List, [], ◌∷◌, ◌++◌, length, map, Option, Result, Ok, Err, IsOkAnd}
use Rattle.std.specs.Io.KnownBytes.{Keeps}
use Rattle.def_format.specs.Documents.{Inquiry, Options}
use Rattle.def_format.specs.Limits.{report_byte_limit, stream_byte_limit}
use Rattle.app_arguments.specs.Statuses.{File, MayBeUnread, OfClaim, WritesUpTo, sources_of}
use Rattle.def_judgement.specs.Writes.{IsAnyReport, IsTextOfStreams, Source, Whole, Writes}
use Rattle.out_picture.specs.Scopes.{Scope}
use Rattle.judge_draw.specs.Drawings.{LacksKind, LacksPredicate}
use Rattle.judge_draw.specs.declared.drawings.DrawOutcome.{DrawOutcome}
use Rattle.judge_draw.specs.declared.drawings.DrawOutcome.TheVariants.{Written, CycleWritten, Refused, NoPredicate, NoEvidence}
use Rattle.judge_draw.specs.Shows.{ShowsAny, ShowsRefusal, ShowsSession}
use Rattle.judge_session.specs.declared.fault.EngineFault.{EngineFault}
use Rattle.judge_session.specs.declared.fault.EngineFault.TheVariants.{Write, Read}
use Rattle.app_draw.specs.Drawings.{AreStreams, DrawLeaves, IsNoticeOf, IsRefusedBy, IsSurelyRead, IsUndrawn, draw_notice, draw_status, session_heading}

-- The picture is written of a document, a report in these bytes and streams, that of a cycle too: a whole text that
-- shows what it is to show. The output fails: such a text or a prefix of it. Something stands against the picture:
-- nothing.
abbrev pub ShowsReport : (report : List ℕ) (streams : List Source) (scope : Scope) → Inquiry
    → Result DrawOutcome EngineFault → (old new : Option (List ℕ)) → Type 0
ShowsReport report streams scope inquiry (Ok Written) old new =
    Writes (ShowsSession inquiry report streams scope) Whole old new
ShowsReport report streams scope inquiry (Ok CycleWritten) old new =
    Writes (ShowsRefusal inquiry report streams scope.extent) Whole old new
ShowsReport report streams scope inquiry (Ok (Refused notice)) old new =
    IsNoticeOf inquiry report streams scope notice.items × Keeps old new
ShowsReport report streams scope inquiry (Ok NoPredicate) old new =
    LacksPredicate inquiry report streams scope × Keeps old new
ShowsReport report streams scope inquiry (Ok NoEvidence) old new =
    LacksKind inquiry report streams scope × Keeps old new
ShowsReport report streams scope inquiry (Err Write) old new =
    WritesUpTo (ShowsAny inquiry report streams scope) old new
ShowsReport report streams scope inquiry _ old new = ⊥

-- The report that is due of a document and streams is shown; or the session is refused, and its report is reported
-- after a line.
pub record ShowsOwn (streams : List Source) (scope : Scope) (inquiry : Inquiry)
    (ending : Result DrawOutcome EngineFault) (old new : Option (List ℕ)) : Type 0 where
  pub report : List ℕ
  pub is_due : IsTextOfStreams inquiry streams IsAnyReport report
  pub shown : IsTextOfStreams inquiry streams IsUndrawn report
      × IsOkAnd ending (IsRefusedBy (session_heading ++ report)) × Keeps old new
      ⊎ ShowsReport report streams scope inquiry ending old new

-- the same, or a stream can't be read or is too long
abbrev pub OfOwnShown : (streams : List Source) (scope : Scope) → Inquiry → Result DrawOutcome EngineFault
    → (old new : Option (List ℕ)) → Type 0
OfOwnShown streams scope inquiry (Err Read) old new =
    ¬ All (IsSurelyRead stream_byte_limit) streams × Keeps old new
OfOwnShown streams scope inquiry ending old new = ShowsOwn streams scope inquiry ending old new

-- The first of these files is a report, which is shown or can't be read or is too long, and the others are streams.
abbrev pub OfClaimShown : (files : List Source) (scope : Scope) → Inquiry → Result DrawOutcome EngineFault
    → (old new : Option (List ℕ)) → Type 0
OfClaimShown [] scope inquiry ending old new = ⊥
OfClaimShown (report ∷ streams) scope inquiry (Err Read) old new =
    ¬ IsSurelyRead report_byte_limit report × Keeps old new
OfClaimShown (report ∷ streams) scope inquiry ending old new =
    OfClaim report (λ bytes. ShowsReport bytes streams scope inquiry ending old new)

-- These files are streams alone, whose session is judged and shown; or they are a report, which is shown, and streams.
abbrev pub OfFilesShown : (files : List Source) (scope : Scope) → Inquiry → Result DrawOutcome EngineFault
    → (old new : Option (List ℕ)) → Type 0
OfFilesShown files scope inquiry ending old new =
    AreStreams inquiry (length files) × OfOwnShown files scope inquiry ending old new
    ⊎ (¬ AreStreams inquiry (length files)) × OfClaimShown files scope inquiry ending old new

-- A run that draws came to some end, by which this is left on the output and on the errors.
pub record EndsShown (files : List ℕ → File) (options : Options) (document : List ℕ) (others : List (List ℕ))
    (scope : Scope) (status : ℕ) (old new errors_old errors_new : Option (List ℕ)) : Type 0 where
  pub ending : Result DrawOutcome EngineFault
  pub is_status : status ≡ draw_status ending
  pub output : DrawLeaves options (files document)
      (MayBeUnread (files document ∷ map files others) (files document ∷ []))
      (OfFilesShown (sources_of (map files others)) scope) ending old new
  pub errors : WritesUpTo (λ text. text ≡ draw_notice ending) errors_old errors_new
