-- The document of an outline.
use Rattle.std.specs.Prelude.{◌≡◌, Bool, Some}
use Rattle.std.specs.List.{AllZip}
use Rattle.def_format.specs.Documents.{Document, Outline, IsNamedPredicate, names_of_outline, initial_of, width_of, version_of}

-- The document is what the outline says, with the predicates of its texts. Whether they are answered beyond the width
-- is given beside it.
pub record IsDocumentOf (outline : Outline) (beyond : Bool) (document : Document) : Type 0 where
  pub names : document.names ≡ names_of_outline outline
  pub initial : document.initial ≡ initial_of outline
  pub width : document.width ≡ width_of outline.width
  pub version : version_of outline.version ≡ Some document.version
  pub beyond_width : document.beyond_width ≡ beyond
  pub predicates : AllZip (IsNamedPredicate (names_of_outline outline)) outline.predicates document.predicates
