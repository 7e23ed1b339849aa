-- The parts of a bundle of which some bytes have come.
use Rattle.std.specs.Prelude.{◌≡◌, ◌<◌, ◌≤◌, ℕ, List, [], ◌∷◌, ◌++◌, drop, length, take}
use Rattle.def_format.specs.Bundles.{onto_part, parts_of, parts_of_lines, whole_lines}
use Rattle.read_bundle.specs.declared.cutter.Cutting.{Cutting}
use Rattle.read_bundle.specs.declared.cutter.Cutting.TheVariants.{Hold, Part, Separator}
use Rattle.read_bundle.specs.declared.cutter.Cutter.{Cutter}
use Rattle.read_bundle.specs.declared.cutter.Cutter.TheVariants.{Held, Inside}

-- `---` and a CR: the longest bytes that may still become a separator
abbrev pub line_marks : List ℕ
line_marks = 45 ∷ 45 ∷ 45 ∷ 13 ∷ []

-- the parts of lines, of which the first belongs to the first part, whatever it is
abbrev pub parts_of_line : List (List ℕ) → List (List ℕ)
parts_of_line [] = [] ∷ []
parts_of_line (line ∷ others) = onto_part line (parts_of_lines others)

-- the parts of bytes that go on in a line that is no separator
abbrev pub parts_in_line : List ℕ → List (List ℕ)
parts_in_line bytes = parts_of_line (whole_lines bytes)

-- the parts of the bytes that come next
abbrev pub parts_from : Cutter → List ℕ → List (List ℕ)
parts_from (Held count) bytes = parts_of (take count line_marks ++ bytes)
parts_from Inside bytes = parts_in_line bytes

-- how many bytes of a piece a cut takes
abbrev pub taken : Cutting → ℕ
taken Hold = 1
taken Separator = 1
taken (Part held count) = count

-- the parts from a piece on, by its cut and the parts of the bytes after it
abbrev pub parts_after : Cutting → List ℕ → List (List ℕ) → List (List ℕ)
parts_after Hold piece parts = parts
parts_after Separator piece parts = [] ∷ parts
parts_after (Part held count) piece parts = onto_part (take held line_marks ++ take count piece) parts

-- The cut takes one byte or more off the piece, and the parts go on with those of the other bytes, whatever comes next.
pub record IsCut (before after : Cutter) (piece : List ℕ) (cut : Cutting) : Type 0 where
  pub some : 0 < taken cut
  pub within : taken cut ≤ length piece
  pub parts : (rest : List ℕ) → parts_from before (piece ++ rest)
      ≡ parts_after cut piece (parts_from after (drop (taken cut) piece ++ rest))

-- these bytes are in one line
abbrev pub IsInLine : List ℕ → Type 0
IsInLine bytes = (rest : List ℕ) → parts_in_line (bytes ++ rest) ≡ onto_part bytes (parts_in_line rest)

-- the line ends with this many of the bytes
pub record EndsLine (bytes : List ℕ) (end : ℕ) : Type 0 where
  pub some : 0 < end
  pub within : end ≤ length bytes
  pub parts : (rest : List ℕ) → parts_in_line (bytes ++ rest)
      ≡ onto_part (take end bytes) (parts_of (drop end bytes ++ rest))

-- the line that begins with these bytes is no separator
abbrev pub IsNoSeparator : List ℕ → Type 0
IsNoSeparator bytes = (rest : List ℕ) → parts_of (bytes ++ rest) ≡ parts_in_line (bytes ++ rest)

-- the run takes this many bytes off a piece in a line, one or more, up to where the next byte stands
pub record IsRun (piece : List ℕ) (count : ℕ) (after : Cutter) : Type 0 where
  pub some : 0 < count
  pub within : count ≤ length piece
  pub parts : (rest : List ℕ) → parts_in_line (piece ++ rest)
      ≡ onto_part (take count piece) (parts_from after (drop count piece ++ rest))
