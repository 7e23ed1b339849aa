-- The parts of a bundle with their places in it.
use Rattle.std.specs.Prelude.{◌≡◌, ◌<◌, ◌≤◌, ℕ, zero, suc, if◌then◌else◌, List, [], ◌∷◌, ◌++◌, codes, decimal, drop, length, map, string_bytes, take}
use Rattle.def_format.specs.Bundles.{is_separator, parts_of, whole_lines}
use Rattle.app_ends.specs.declared.seen_parts.Part.{Part}

-- how many lines stand before each part that a separator among these lines begins; this many stand before them
abbrev pub lines_before : ℕ → List (List ℕ) → List ℕ
lines_before n [] = []
lines_before n (line ∷ others) =
    if is_separator line then suc n ∷ lines_before (suc n) others else lines_before (suc n) others

-- what the part is called before which this many others stand
abbrev pub part_name : ℕ → List ℕ
part_name zero = []
part_name (suc n) = codes "stream " ++ decimal (suc n)

-- what this many parts are called
abbrev pub part_names : ℕ → List (List ℕ)
part_names zero = []
part_names (suc n) = part_names n ++ part_name n ∷ []

-- a part with these bytes, before which this many parts and lines stand
pub record IsPart (others : ℕ) (bytes : List ℕ) (before : ℕ) (part : Part) : Type 0 where
  pub name : string_bytes part.name ≡ part_name others
  pub has_bytes : part.bytes.now ≡ bytes
  pub comes_after : part.before ≡ before

-- the first line of the bytes has this length
pub record IsLineLength (bytes : List ℕ) (count : ℕ) : Type 0 where
  pub some : 0 < count
  pub fits : count ≤ length bytes
  pub cut : whole_lines bytes ≡ take count bytes ∷ whole_lines (drop count bytes)

-- the parts of the bundle, each with the lines before it and its name
pub record ArePartsOf (bundle : List ℕ) (parts : List Part) : Type 0 where
  pub bytes : map (λ (part : Part). part.bytes.now) parts ≡ parts_of bundle
  pub before : map (λ (part : Part). part.before) parts ≡ 0 ∷ lines_before 0 (whole_lines bundle)
  pub names : map (λ (part : Part). string_bytes part.name) parts ≡ part_names (length parts)
