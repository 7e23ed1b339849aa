-- What comes of a recorded run that is a bundle.
use Rattle.std.specs.Prelude.{◌≡◌, ◌⊎◌, ◌≤◌, ℕ, List, ◌∷◌, codes, length, Some, None, ◌++◌}
use Rattle.def_format.specs.Bundles.{parts_of}
use Rattle.def_format.specs.Documents.{Document, Inquiry, IsDocument, Options, inquiry_of}
use Rattle.def_format.specs.Limits.{bundle_byte_limit}
use Rattle.def_judgement.specs.Findings.{names_asked}
use Rattle.def_judgement.specs.Judgements.{ended_streams}
use Rattle.def_judgement.specs.Writes.{IsBrokenOff, IsTooLong, IsWholeInput, Source}
use Rattle.judge_runs.specs.Runs.{Outcome, Reported, Unnamed, Unread}
use Rattle.judge_runs.specs.Wishes.{Condition, first_unnamed}
use Rattle.judge_shared.specs.SharedReports.{IsRunReport}

-- the name of a run that is a bundle, in the file of this name: it ends so
abbrev pub IsBundleName : List ℕ → Type 0
IsBundleName name = (stem : List ℕ) × (name ≡ stem ++ codes ".bundle")

-- P holds of the document and the streams in the bundle that a source with this left gave to its end, and that is
-- within the limit.
pub record OfBundle (input : Source) (P : (document : List ℕ) (streams : List (List ℕ)) → Type 0) : Type 0 where
  pub bundle : List ℕ
  pub is_given : IsWholeInput input bundle
  pub fits : length bundle ≤ bundle_byte_limit
  pub document : List ℕ
  pub streams : List (List ℕ)
  pub parts : parts_of bundle ≡ document ∷ streams
  pub holds : P document streams

-- the document, if the inquiry is of one, has each predicate that is wished for
abbrev pub HasWished : List Condition → Inquiry → Type 0
HasWished wishes inquiry =
    (document : Document) → IsDocument inquiry document → first_unnamed (names_asked document) wishes ≡ None

-- What comes of a document, with what is asked beside it, and of streams that have ended. The document lacks a
-- predicate that is wished for, and this is the first name of which that is so; or it has each, or is refused, and this
-- is the report of the run, by its judgement or by that of another run of its order.
abbrev pub IsOutcomeOfParts : List Condition → Inquiry → (streams : List (List ℕ)) → Outcome → Type 0
IsOutcomeOfParts wishes inquiry streams (Unread file) = ⊥
IsOutcomeOfParts wishes inquiry streams (Unnamed name) =
    (document : Document) × IsDocument inquiry document × (first_unnamed (names_asked document) wishes ≡ Some name)
IsOutcomeOfParts wishes inquiry streams (Reported report) =
    HasWished wishes inquiry × IsRunReport inquiry (ended_streams streams) report

-- What comes of the bundle that a source with this left gave to its end, and that is within the limit.
abbrev pub IsOutcomeOfRead : Options → List Condition → (input : Source) → Outcome → Type 0
IsOutcomeOfRead options wishes input outcome =
    OfBundle input (λ document streams. IsOutcomeOfParts wishes (inquiry_of options document) streams outcome)

-- What comes of the bundle in the file of this name, of which a source with this left is open. A read of it fails, or
-- it is over the limit: the file is unread. It is read to its end: what comes of its parts.
abbrev pub IsOutcomeOfBundle : Options → List Condition → (name : List ℕ) (input : Source) → Outcome → Type 0
IsOutcomeOfBundle options wishes name input outcome =
    (outcome ≡ Unread name) × (IsBrokenOff input ⊎ IsTooLong input) ⊎ IsOutcomeOfRead options wishes input outcome
