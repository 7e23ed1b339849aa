-- What was read of files and of the parts of a bundle, as it is explained.
use Rattle.std.specs.Prelude.{◌≡◌, ℕ, if◌then◌else◌, List, [], ◌∷◌, codes, map, string_bytes, Option, Some, None, option_map, MatchOption}
use Rattle.std.specs.Str.{bytes_eq}
use Rattle.app_text.specs.declared.source.Source.{Source}
use Rattle.app_explain.specs.declared.seen.SeenStream.{SeenStream}
use Rattle.app_ends.specs.declared.seen_parts.Part.{Part}

-- what a file of this name is called
abbrev pub file_called : List ℕ → List ℕ
file_called name = if bytes_eq name (codes "-") then codes "standard input" else name

-- the source is a file of this name, and no part of a bundle
pub record IsFile (name : List ℕ) (source : Source) : Type 0 where
  pub called : source.name.now ≡ file_called name
  pub whole : source.before ≡ 0

-- a source by its values
pub record Shown : Type 0 where
  pub name : List ℕ
  pub bytes : List ℕ
  pub before : ℕ

abbrev pub source_view : Source → Shown
source_view source = record { name = source.name.now; bytes = source.bytes.now; before = source.before }

-- what the part of this name is called: the document has none
abbrev pub part_called : List ℕ → List ℕ
part_called [] = codes "the document"
part_called (byte ∷ rest) = byte ∷ rest

-- a part of a bundle as it is shown
abbrev pub part_view : Part → Shown
part_view part =
    record { name = part_called (string_bytes part.name); bytes = part.bytes.now; before = part.before }

-- the first of the parts, if there is one
abbrev pub first_view : List Part → Option Shown
first_view [] = None
first_view (part ∷ parts) = Some (part_view part)

-- the others
abbrev pub later_views : List Part → List (Option Shown)
later_views [] = []
later_views (part ∷ parts) = map (λ it. Some (part_view it)) parts

-- what is known of the bytes of a stream
abbrev pub bytes_view : SeenStream → Option Shown
bytes_view stream = option_map source_view stream.source
