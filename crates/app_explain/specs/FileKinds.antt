-- What a file is, by its first bytes.
use Rattle.std.specs.Prelude.{ℕ, ◌||◌, nat_eq, if◌then◌else◌, List, [], ◌∷◌, Option, Some, None}
use Rattle.std.specs.List.{starts_with}
use Rattle.app_explain.specs.declared.file_kinds.FileKind.{FileKind}
use Rattle.app_explain.specs.declared.file_kinds.FileKind.TheVariants as kinds

-- a byte order mark in UTF-8, one in UTF-16 of either order, and the first bytes of gzip, of ZIP and of PNG
abbrev pub kind_of : List ℕ → Option FileKind
kind_of bytes =
    if starts_with nat_eq bytes (239 ∷ 187 ∷ 191 ∷ []) then Some kinds.Marked
    else if starts_with nat_eq bytes (255 ∷ 254 ∷ []) || starts_with nat_eq bytes (254 ∷ 255 ∷ []) then Some kinds.Wide
    else if starts_with nat_eq bytes (31 ∷ 139 ∷ []) then Some kinds.Gzip
    else if starts_with nat_eq bytes (80 ∷ 75 ∷ 3 ∷ 4 ∷ []) then Some kinds.Zip
    else if starts_with nat_eq bytes (137 ∷ 80 ∷ 78 ∷ 71 ∷ []) then Some kinds.Png
    else None
