-- The names by which the parts of a bundle are opened.
use Rattle.std.specs.Prelude.{ℕ, zero, suc, if◌then◌else◌, List, [], ◌∷◌, ◌++◌, codes, decimal, map, string_bytes, Option, Some, None}
use Rattle.std.specs.Str.{bytes_eq}
use Rattle.app_parts.specs.declared.parts.Part.{Part}

-- the name of the part before which this many others stand: that of the document is the input's
abbrev pub part_name : ℕ → List ℕ
part_name zero = codes "-"
part_name (suc n) = codes "stream " ++ decimal (suc n) ++ codes " of standard input"

-- the names of this many parts
abbrev pub part_names : ℕ → List (List ℕ)
part_names zero = []
part_names (suc n) = part_names n ++ part_name n ∷ []

-- the name of each part
abbrev pub names_of : List Part → List (List ℕ)
names_of parts = map (λ (part : Part). string_bytes part.name) parts

-- the bytes of the first of these parts that has this name, if one has
abbrev pub bytes_called : List ℕ → List Part → Option (List ℕ)
bytes_called name [] = None
bytes_called name (part ∷ parts) =
    if bytes_eq (string_bytes part.name) name then Some part.bytes.items else bytes_called name parts
