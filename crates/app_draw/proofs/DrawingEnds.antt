-- What a run that draws leaves by the bytes that were read, before and after the flush.
use Rattle.std.proofs.Common.{◌≡◌, ◌⊎◌, ◌∙◌, ℕ, List, sym, subst, Some, None, Option, Ok, Err, inl, inr, true}
use Rattle.std.specs.Prelude.{Result}
use Rattle.std.specs.Io.KnownBytes.{Keeps}
use Rattle.def_format.specs.Documents.{Inquiry}
use Rattle.def_judgement.specs.Writes.{Source}
use Rattle.out_picture.specs.Scopes.{Scope}
use Rattle.judge_draw.specs.Drawings.{ShowsEnd, WritesPicture}
use Rattle.judge_draw.specs.declared.drawings.DrawOutcome.{DrawOutcome}
use Rattle.judge_draw.specs.declared.drawings.DrawOutcome.TheVariants.{Written, CycleWritten, Refused, NoPredicate, NoEvidence}
use Rattle.judge_session.specs.declared.fault.EngineFault.{EngineFault}
use Rattle.judge_session.specs.declared.fault.EngineFault.TheVariants.{Memory, Write, Read, BundleLong}
use Rattle.app_draw.specs.Drawings.{DrawReadLeaves, DrawsReport, Finishes}
use Rattle.app_host.proofs.WrittenSoFar.{appends_kept}

-- what is kept twice is kept
kept_on : (a b c : Option (List ℕ)) → Keeps a b → Keeps b c → Keeps a c
kept_on None b c first then = tt
kept_on (Some old) None c first then = absurd first
kept_on (Some old) (Some mid) None first then = absurd then
kept_on (Some old) (Some mid) (Some new) first then = then ∙ first

module _ (document : Inquiry) (report : List ℕ) (inputs : List Source) (scope : Scope) where
  abbrev Leaves : Result DrawOutcome EngineFault → (old new : Option (List ℕ)) → Type 0
  Leaves result old new = DrawReadLeaves (DrawsReport report inputs scope document) result old new

  -- the call failed
  pub drawing_failed : (fault : EngineFault) (old new : Option (List ℕ)) → (fault ≡ Memory) ⊎ (fault ≡ Write)
      → WritesPicture document report inputs scope true (Err fault) old new
      → Leaves (Err fault) old new
  drawing_failed Memory old new is written = written
  drawing_failed Write old new is written = inr written
  drawing_failed Read old new (inl is) written = absurd (cc)
  drawing_failed Read old new (inr is) written = absurd (cc)
  drawing_failed BundleLong old new (inl is) written = absurd (cc)
  drawing_failed BundleLong old new (inr is) written = absurd (cc)

  -- the call came to an end, and then the output was flushed
  pub drawing_finished : (drawing : DrawOutcome) (result : Result DrawOutcome EngineFault)
      (old middle new : Option (List ℕ))
      → WritesPicture document report inputs scope true (Ok drawing) old middle
      → ShowsEnd document report inputs scope drawing → Finishes drawing result middle new
      → Leaves result old new
  drawing_finished Written result old middle new written shows (inl is, keeps) =
      subst (λ (r : Result DrawOutcome EngineFault). Leaves r old new) (sym is)
      (written.0, written.1, appends_kept old middle new written.0 written.2 keeps)
  drawing_finished Written result old middle new written shows (inr is, keeps) =
      subst (λ (r : Result DrawOutcome EngineFault). Leaves r old new) (sym is)
      (inl (written.0, inl written.1, appends_kept old middle new written.0 written.2 keeps))
  drawing_finished CycleWritten result old middle new written shows (inl is, keeps) =
      subst (λ (r : Result DrawOutcome EngineFault). Leaves r old new) (sym is)
      (written.0, written.1, appends_kept old middle new written.0 written.2 keeps)
  drawing_finished CycleWritten result old middle new written shows (inr is, keeps) =
      subst (λ (r : Result DrawOutcome EngineFault). Leaves r old new) (sym is)
      (inl (written.0, inr written.1, appends_kept old middle new written.0 written.2 keeps))
  drawing_finished (Refused found) result old middle new written shows (inl is, keeps) =
      subst (λ (r : Result DrawOutcome EngineFault). Leaves r old new) (sym is) (kept_on old middle new written keeps)
  drawing_finished (Refused found) (Ok Written) old middle new written shows (inr is, keeps) = absurd is
  drawing_finished (Refused found) (Ok CycleWritten) old middle new written shows (inr is, keeps) = absurd is
  drawing_finished (Refused found) (Ok NoPredicate) old middle new written shows (inr is, keeps) = absurd is
  drawing_finished (Refused found) (Ok NoEvidence) old middle new written shows (inr is, keeps) = absurd is
  drawing_finished (Refused found) (Ok (Refused notice)) old middle new written shows (inr is, keeps) = (
    record { found = found.items; is_against = shows; is_notice = is },
    kept_on old middle new written keeps,
  )
  drawing_finished (Refused found) (Err fault) old middle new written shows (inr is, keeps) = absurd is
  drawing_finished NoPredicate result old middle new written shows (is, keeps) =
      subst (λ (r : Result DrawOutcome EngineFault). Leaves r old new) (sym is)
      (shows, kept_on old middle new written keeps)
  drawing_finished NoEvidence result old middle new written shows (is, keeps) =
      subst (λ (r : Result DrawOutcome EngineFault). Leaves r old new) (sym is)
      (shows, kept_on old middle new written keeps)
