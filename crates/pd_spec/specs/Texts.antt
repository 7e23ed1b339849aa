-- The text of a document with what is asked.
use Rattle.std.specs.Prelude.{◌≡◌, ℕ, List, [], Some, None}
use Rattle.json.specs.Lex.{tokens}
use Rattle.json.specs.Print.{print}
use Rattle.serde_json.specs.Data.{Data}
use Rattle.def_format.specs.Documents.{Inquiry, Options, inquiry_json}
use Rattle.def_format.specs.Records.{json_value}

-- no width and no predicate is asked for, so the document's fields stay as they are
abbrev pub KeepsFields : Options → Type 0
KeepsFields options = (options.width ≡ None) × (options.predicates ≡ [])

-- the text is that of the inquiry's document, with what is asked in place of what it has
pub data IsDocumentText (inquiry : Inquiry) (text : List ℕ) : Type 0 where
  -- the document's own bytes, if its fields stay as they are
  own : KeepsFields inquiry.options → text ≡ inquiry.bytes → IsDocumentText inquiry text
  -- or if they are no JSON
  no_json : inquiry_json inquiry ≡ None → text ≡ inquiry.bytes → IsDocumentText inquiry text
  -- otherwise the changed value's text without spaces
  printed : ¬ KeepsFields inquiry.options → (value : Data) → inquiry_json inquiry ≡ Some value
      → json_value text ≡ Some value → text ≡ print (tokens text) → IsDocumentText inquiry text
