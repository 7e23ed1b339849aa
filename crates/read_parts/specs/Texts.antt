-- The texts of the parts of a bundle.
use Rattle.std.specs.Prelude.{ℕ, if◌then◌else◌, List, Option, Some, None}
use Rattle.std.specs.List.{list_all}
use Rattle.std.specs.Str.{is_utf8}

-- the parts, if each is a text
abbrev pub texts_of_parts : List (List ℕ) → Option (List (List ℕ))
texts_of_parts parts = if list_all is_utf8 parts then Some parts else None
