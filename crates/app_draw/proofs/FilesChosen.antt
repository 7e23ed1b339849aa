-- What is left by the files of a picture, by whether they are streams alone.
use Rattle.std.proofs.Common.{◌≡◌, ◌≤◌, ◌<◌, ◌⊎◌, ◌∙◌, ℕ, List, [], ◌∷◌, drop, length, map, Option, Ok, Err, refl, sym, subst, inl, inr, arith}
use Rattle.std.specs.Prelude.{Result}
use Rattle.std.specs.List.{slice_index_or}
use Rattle.std.specs.Io.KnownBytes.{Keeps}
use Rattle.std.proofs.lemmas.List.{length-map}
use Rattle.def_format.specs.Documents.{DocumentFault, Inquiry, IsRefusedDocument}
use Rattle.def_format.specs.Limits.{report_byte_limit}
use Rattle.def_judgement.specs.OneReport.{DocumentNotRefused}
use Rattle.def_judgement.specs.Writes.{IsWholeInput, Source}
use Rattle.out_picture.specs.Scopes.{Scope}
use Rattle.judge_draw.specs.declared.drawings.DrawOutcome.{DrawOutcome}
use Rattle.judge_session.specs.declared.fault.EngineFault.{EngineFault}
use Rattle.judge_session.specs.declared.fault.EngineFault.TheVariants.{Memory, Write, Read, BundleLong}
use Rattle.app_draw.specs.Drawings.{AreStreams, DrawReadLeaves, DrawsReport, IsSurelyRead, OfClaimed, OfDrawing, OfFiles, OfOwnDrawing}

-- more than one file beside a document that is refused are no streams alone
pub refused_alone : (inquiry : Inquiry) (fault : DocumentFault) (count : ℕ) → DocumentNotRefused
    → IsRefusedDocument inquiry fault → ¬ (count ≤ 1) → AreStreams inquiry count → ⊥
refused_alone inquiry fault count never refused many (inl few) = many few
refused_alone inquiry fault count never refused many (inr (document, is, as_many)) =
    never inquiry document fault is refused

module _ (scope : Scope) (inquiry : Inquiry) (old new : Option (List ℕ)) where
  -- ---- the first file is a report

  claimed_first : {R : Type 0} (left : R → Source) (files : List R) (first : R) (rest : List R)
      (result : Result DrawOutcome EngineFault) → 0 < length files → first ≡ slice_index_or files 0 first
      → rest ≡ drop 1 files → OfDrawing (left first) (map left rest) scope inquiry result old new
      → OfClaimed (map left files) scope inquiry result old new
  claimed_first left [] first rest result some is are drawn = absurd (omega (arith, some))
  claimed_first {R = R} left (file ∷ files) first rest result some is are drawn =
      subst (λ (r : R). OfDrawing (left r) (map left files) scope inquiry result old new) is
      (subst (λ (rs : List R). OfDrawing (left first) (map left rs) scope inquiry result old new) are drawn)

  drawing_read : (report : Source) (bytes : List ℕ) (streams : List Source) → IsWholeInput report bytes
      → length bytes ≤ report_byte_limit → (result : Result DrawOutcome EngineFault)
      → DrawReadLeaves (DrawsReport bytes streams scope inquiry) result old new
      → DrawReadLeaves (OfDrawing report streams scope inquiry) result old new
  drawing_read report bytes streams whole fits (Ok outcome) left =
      record { bytes = bytes; whole = whole; fits = fits; holds = left }
  drawing_read report bytes streams whole fits (Err Memory) left = left
  drawing_read report bytes streams whole fits (Err Read) left = absurd left
  drawing_read report bytes streams whole fits (Err Write) left =
      record { bytes = bytes; whole = whole; fits = fits; holds = left }
  drawing_read report bytes streams whole fits (Err BundleLong) left = absurd left

  claimed_leaves : {R : Type 0} (left : R → Source) (files : List R) (first : R) (rest : List R)
      (result : Result DrawOutcome EngineFault) → 0 < length files → first ≡ slice_index_or files 0 first
      → rest ≡ drop 1 files
      → DrawReadLeaves (OfDrawing (left first) (map left rest) scope inquiry) result old new
      → DrawReadLeaves (OfClaimed (map left files) scope inquiry) result old new
  claimed_leaves left files first rest (Ok outcome) some is are drawn =
      claimed_first left files first rest (Ok outcome) some is are drawn
  claimed_leaves left files first rest (Err Memory) some is are drawn = drawn
  claimed_leaves left files first rest (Err Read) some is are drawn =
      claimed_first left files first rest (Err Read) some is are drawn
  claimed_leaves left files first rest (Err Write) some is are drawn =
      claimed_first left files first rest (Err Write) some is are drawn
  claimed_leaves left files first rest (Err BundleLong) some is are drawn =
      claimed_first left files first rest (Err BundleLong) some is are drawn

  -- the report in the first file is drawn
  pub claim_drawn : {R : Type 0} (left : R → Source) (files : List R) (first : R) (rest : List R) (bytes : List ℕ)
      (result : Result DrawOutcome EngineFault) → 0 < length files → first ≡ slice_index_or files 0 first
      → rest ≡ drop 1 files → IsWholeInput (left first) bytes → length bytes ≤ report_byte_limit
      → DrawReadLeaves (DrawsReport bytes (map left rest) scope inquiry) result old new
      → DrawReadLeaves (OfClaimed (map left files) scope inquiry) result old new
  claim_drawn left files first rest bytes result some is are whole fits drawn =
      claimed_leaves left files first rest result some is are
      (drawing_read (left first) bytes (map left rest) whole fits result drawn)

  -- it can't be read
  pub claim_unread : {R : Type 0} (left : R → Source) (files : List R) (first : R) (fault : EngineFault)
      → 0 < length files → first ≡ slice_index_or files 0 first → Keeps old new
      → (fault ≡ Memory) ⊎ (fault ≡ Read) → (fault ≡ Read → ¬ IsSurelyRead report_byte_limit (left first))
      → DrawReadLeaves (OfClaimed (map left files) scope inquiry) (Err fault) old new
  claim_unread left files first Memory some is keeps fault unread = keeps
  claim_unread left files first Read some is keeps fault unread =
      claimed_first left files first (drop 1 files) (Err Read) some is refl (unread refl, keeps)
  claim_unread left files first Write some is keeps (inl fault) unread = absurd (cc)
  claim_unread left files first Write some is keeps (inr fault) unread = absurd (cc)
  claim_unread left files first BundleLong some is keeps (inl fault) unread = absurd (cc)
  claim_unread left files first BundleLong some is keeps (inr fault) unread = absurd (cc)

  -- ---- one or the other

  alone_here : (files : List Source) → AreStreams inquiry (length files) → (result : Result DrawOutcome EngineFault)
      → DrawReadLeaves (OfOwnDrawing files scope inquiry) result old new
      → DrawReadLeaves (OfFiles files scope inquiry) result old new
  alone_here files alone (Ok outcome) left = inl (alone, left)
  alone_here files alone (Err Memory) left = left
  alone_here files alone (Err Read) left = inl (alone, left)
  alone_here files alone (Err Write) left = inl (alone, left)
  alone_here files alone (Err BundleLong) left = inl (alone, left)

  beside_here : (files : List Source) → ¬ AreStreams inquiry (length files)
      → (result : Result DrawOutcome EngineFault)
      → DrawReadLeaves (OfClaimed files scope inquiry) result old new
      → DrawReadLeaves (OfFiles files scope inquiry) result old new
  beside_here files beside (Ok outcome) left = inr (beside, left)
  beside_here files beside (Err Memory) left = left
  beside_here files beside (Err Read) left = inr (beside, left)
  beside_here files beside (Err Write) left = inr (beside, left)
  beside_here files beside (Err BundleLong) left = inr (beside, left)

  pub streams_alone : {R : Type 0} (left : R → Source) (files : List R) (count : ℕ) → count ≡ length files
      → AreStreams inquiry count → (result : Result DrawOutcome EngineFault)
      → DrawReadLeaves (OfOwnDrawing (map left files) scope inquiry) result old new
      → DrawReadLeaves (OfFiles (map left files) scope inquiry) result old new
  streams_alone left files count is alone =
      alone_here (map left files) (subst (AreStreams inquiry) (is ∙ sym (length-map files left)) alone)

  pub streams_beside : {R : Type 0} (left : R → Source) (files : List R) (count : ℕ) → count ≡ length files
      → ¬ AreStreams inquiry count → (result : Result DrawOutcome EngineFault)
      → DrawReadLeaves (OfClaimed (map left files) scope inquiry) result old new
      → DrawReadLeaves (OfFiles (map left files) scope inquiry) result old new
  streams_beside left files count is beside =
      beside_here (map left files)
      (λ alone. beside (subst (AreStreams inquiry) (sym (is ∙ sym (length-map files left))) alone))
