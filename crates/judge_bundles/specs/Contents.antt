-- What a bundle holds that was read to its end.
use Rattle.std.specs.Prelude.{◌≡◌, ⊤, ℕ, All, List, [], ◌∷◌, None}
use Rattle.def_format.specs.Documents.{IsDocument, Options, inquiry_of}
use Rattle.def_judgement.specs.Writes.{Source}
use Rattle.judge_bundles.specs.BundleRuns.{IsOutcomeOfRead}
use Rattle.judge_bundles.specs.declared.contents.Contents.{Contents}
use Rattle.judge_bundles.specs.declared.contents.Contents.TheVariants as contents
use Rattle.judge_runs.specs.Views.{outcome_view}
use Rattle.judge_runs.specs.Wishes.{Condition, first_unnamed, names_of}
use Rattle.pd_gather.specs.Views.{ReadingFits, results_view}
use Rattle.pd_gather.specs.declared.gathered.Gathered.{Gathered}
use Rattle.pd_spec.specs.Views.{document_view}
use Rattle.pd_spec.specs.declared.spec.Spec.{Spec}
use Rattle.read_bundle.specs.PartsRead.{AreStreams}

-- The bundle that a source with this left gave to its end, within the limit, holds these bytes of this document, with
-- what is asked beside it, which has each predicate that is wished for, and streams that gave this.
pub record HoldsSession (options : Options) (wishes : List Condition) (input : Source) (document : List ℕ)
    (spec : Spec) (gathered : Gathered) : Type 0 where
  pub is_document : IsDocument (inquiry_of options document) (document_view spec)
  pub has_wished : first_unnamed (names_of (document_view spec).predicates) wishes ≡ None
  pub are_streams : AreStreams (document_view spec).names gathered.streams (results_view gathered.readings.items) input
      (document ∷ [])

-- The bundle that a source with this left gave to its end, within the limit, holds this.
abbrev pub HoldsContents : Options → List Condition → (input : Source) → Contents → Type 0
HoldsContents options wishes input (contents.Known outcome) =
    IsOutcomeOfRead options wishes input (outcome_view outcome)
HoldsContents options wishes input (contents.Session document spec gathered) =
    HoldsSession options wishes input document.items spec gathered

-- what the streams gave fits their document
abbrev pub FitContents : Contents → Type 0
FitContents (contents.Known outcome) = ⊤
FitContents (contents.Session document spec gathered) =
    All (ReadingFits (document_view spec).names) gathered.readings.items
