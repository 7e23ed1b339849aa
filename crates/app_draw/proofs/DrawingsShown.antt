-- What a run that draws leaves by the exact texts of pictures is what it leaves by what they show.
use Rattle.std.proofs.Common.{◌⊎◌, ℕ, List, [], ◌∷◌, ◌++◌, Option, Ok, Err, inl, inr, true}
use Rattle.std.specs.Prelude.{IsOkAnd, Result}
use Rattle.std.specs.Io.KnownBytes.{Keeps}
use Rattle.app_arguments.specs.Statuses.{File, OfDocument}
use Rattle.def_format.specs.Documents.{Inquiry, Options}
use Rattle.def_judgement.specs.Writes.{IsTextOfStreams, Source, Whole, Partial}
use Rattle.def_judgement.proofs.Writing.{writes_weaker}
use Rattle.out_picture.specs.Scopes.{Scope}
use Rattle.judge_draw.specs.Drawings.{IsAnyTextOf}
use Rattle.judge_draw.specs.declared.drawings.DrawOutcome.{DrawOutcome}
use Rattle.judge_draw.specs.declared.drawings.DrawOutcome.TheVariants.{Written, CycleWritten, Refused, NoPredicate, NoEvidence}
use Rattle.judge_draw.specs.Shows.{ShowsAny}
use Rattle.judge_draw.proofs.TextsShow.{cycles_show, drawings_show}
use Rattle.judge_session.specs.declared.fault.EngineFault.{EngineFault}
use Rattle.judge_session.specs.declared.fault.EngineFault.TheVariants.{Memory, Write, Read, BundleLong}
use Rattle.app_draw.specs.Drawings.{DrawLeaves, DrawsDue, DrawsReport, EndsDrawn, IsRefusedBy, IsUndrawn, OfClaimed, OfFiles, OfOwnDrawing, session_heading}
use Rattle.app_draw.specs.ShownDrawings.{EndsShown, OfClaimShown, OfFilesShown, OfOwnShown, ShowsReport}

any_shown : (inquiry : Inquiry) (report : List ℕ) (streams : List Source) (scope : Scope) (text : List ℕ)
    → IsAnyTextOf inquiry report streams scope true text → ShowsAny inquiry report streams scope text
any_shown inquiry report streams scope text (inl session) =
    inl (drawings_show inquiry report streams scope text session)
any_shown inquiry report streams scope text (inr cycle) =
    inr (cycles_show inquiry report streams scope.extent text cycle)

module _ (scope : Scope) (inquiry : Inquiry) (old new : Option (List ℕ)) where
  report_shown : (report : List ℕ) (streams : List Source) (ending : Result DrawOutcome EngineFault)
      → DrawsReport report streams scope inquiry ending old new
      → ShowsReport report streams scope inquiry ending old new
  report_shown report streams (Ok Written) left =
      writes_weaker _ _ Whole old new (drawings_show inquiry report streams scope) left
  report_shown report streams (Ok CycleWritten) left =
      writes_weaker _ _ Whole old new (cycles_show inquiry report streams scope.extent) left
  report_shown report streams (Ok (Refused notice)) left = left
  report_shown report streams (Ok NoPredicate) left = left
  report_shown report streams (Ok NoEvidence) left = left
  report_shown report streams (Err Memory) left = left
  report_shown report streams (Err Read) left = left
  report_shown report streams (Err Write) (inl left) =
      inl (writes_weaker _ _ Whole old new (any_shown inquiry report streams scope) left)
  report_shown report streams (Err Write) (inr left) =
      inr (writes_weaker _ _ Partial old new (any_shown inquiry report streams scope) left)
  report_shown report streams (Err BundleLong) left = left

  due_shown : (report : List ℕ) (streams : List Source) (ending : Result DrawOutcome EngineFault)
      → DrawsDue report streams scope inquiry ending old new
      → IsTextOfStreams inquiry streams IsUndrawn report
      × IsOkAnd ending (IsRefusedBy (session_heading ++ report)) × Keeps old new
      ⊎ ShowsReport report streams scope inquiry ending old new
  due_shown report streams ending (inl refused) = inl refused
  due_shown report streams ending (inr drawn) = inr (report_shown report streams ending drawn)

  own_shown : (streams : List Source) (ending : Result DrawOutcome EngineFault)
      → OfOwnDrawing streams scope inquiry ending old new → OfOwnShown streams scope inquiry ending old new
  own_shown streams (Ok outcome) left = record {
    report = left.report;
    is_due = left.is_due;
    shown = due_shown left.report streams (Ok outcome) left.drawn;
  }
  own_shown streams (Err Memory) left = record {
    report = left.report;
    is_due = left.is_due;
    shown = due_shown left.report streams (Err Memory) left.drawn;
  }
  own_shown streams (Err Read) left = left
  own_shown streams (Err Write) left = record {
    report = left.report;
    is_due = left.is_due;
    shown = due_shown left.report streams (Err Write) left.drawn;
  }
  own_shown streams (Err BundleLong) left = record {
    report = left.report;
    is_due = left.is_due;
    shown = due_shown left.report streams (Err BundleLong) left.drawn;
  }

  claim_shown : (files : List Source) (ending : Result DrawOutcome EngineFault)
      → OfClaimed files scope inquiry ending old new → OfClaimShown files scope inquiry ending old new
  claim_shown [] ending left = left
  claim_shown (report ∷ streams) (Ok outcome) left = record {
    bytes = left.bytes;
    whole = left.whole;
    fits = left.fits;
    holds = report_shown left.bytes streams (Ok outcome) left.holds;
  }
  claim_shown (report ∷ streams) (Err Memory) left =
      record { bytes = left.bytes; whole = left.whole; fits = left.fits; holds = left.holds }
  claim_shown (report ∷ streams) (Err Read) left = left
  claim_shown (report ∷ streams) (Err Write) left = record {
    bytes = left.bytes;
    whole = left.whole;
    fits = left.fits;
    holds = report_shown left.bytes streams (Err Write) left.holds;
  }
  claim_shown (report ∷ streams) (Err BundleLong) left =
      record { bytes = left.bytes; whole = left.whole; fits = left.fits; holds = left.holds }

  files_shown : (files : List Source) (ending : Result DrawOutcome EngineFault)
      → OfFiles files scope inquiry ending old new → OfFilesShown files scope inquiry ending old new
  files_shown files ending (inl (alone, own)) = inl (alone, own_shown files ending own)
  files_shown files ending (inr (beside, claimed)) = inr (beside, claim_shown files ending claimed)

module _ (options : Options) (document : File) (IsUnread : Type 0) (files : List Source) (scope : Scope)
    (old new : Option (List ℕ)) where
  document_shown : (ending : Result DrawOutcome EngineFault)
      → OfDocument options document (λ inquiry. OfFiles files scope inquiry ending old new)
      → OfDocument options document (λ inquiry. OfFilesShown files scope inquiry ending old new)
  document_shown ending left =
      record { bytes = left.bytes; whole = left.whole; holds = files_shown scope _ old new files ending left.holds }

  leaves_shown : (ending : Result DrawOutcome EngineFault)
      → DrawLeaves options document IsUnread (OfFiles files scope) ending old new
      → DrawLeaves options document IsUnread (OfFilesShown files scope) ending old new
  leaves_shown (Ok outcome) left = document_shown (Ok outcome) left
  leaves_shown (Err Memory) left = left
  leaves_shown (Err Read) (inl unread) = inl unread
  leaves_shown (Err Read) (inr left) = inr (document_shown (Err Read) left)
  leaves_shown (Err Write) left = document_shown (Err Write) left
  leaves_shown (Err BundleLong) left = document_shown (Err BundleLong) left

-- the ends of a run that draws, by what its picture shows
pub ends_shown : (files : List ℕ → File) (options : Options) (document : List ℕ) (others : List (List ℕ))
    (scope : Scope) (status : ℕ) (old new errors_old errors_new : Option (List ℕ))
    → EndsDrawn files options document others scope status old new errors_old errors_new
    → EndsShown files options document others scope status old new errors_old errors_new
ends_shown files options document others scope status old new errors_old errors_new ends = record {
  ending = ends.ending;
  is_status = ends.is_status;
  output = leaves_shown options (files document) _ _ scope old new ends.ending ends.output;
  errors = ends.errors;
}
