-- Where the first line and the first part of bytes end.
use Rattle.std.specs.Prelude.{◌≡◌, ◌<◌, ◌≤◌, ℕ, List, ◌∷◌, drop, length, take}
use Rattle.def_format.specs.Bundles.{parts_of, whole_lines}

-- the first line has this many bytes
pub record IsFirstLine (bytes : List ℕ) (count : ℕ) : Type 0 where
  pub some : 0 < count
  pub within : count ≤ length bytes
  pub lines : whole_lines bytes ≡ take count bytes ∷ whole_lines (drop count bytes)

-- the first part has this many bytes, and the parts after it begin after this many
pub record IsFirstPart (bytes : List ℕ) (count next : ℕ) : Type 0 where
  pub before : count < next
  pub within : next ≤ length bytes
  pub parts : parts_of bytes ≡ take count bytes ∷ parts_of (drop next bytes)
