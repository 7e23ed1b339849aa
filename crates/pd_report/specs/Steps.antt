-- Names, each kept once, and which of them an observation's events have.
use Rattle.std.specs.Prelude.{◌≡◌, ℕ, ◌<◌, List, [], ◌++◌, All, map, slice_index_or, string_bytes}
use Rattle.std.specs.declared.alloc.Global.{Global}
use Rattle.std.specs.declared.string.String.{String}

abbrev pub names_view : List (String Global) → List (List ℕ)
names_view names = map string_bytes names

-- the name at a place
abbrev pub name_at : List (List ℕ) → ℕ → List ℕ
name_at names step = slice_index_or names step []

-- the names at places
abbrev pub names_at : List (List ℕ) → List ℕ → List (List ℕ)
names_at names steps = map (name_at names) steps

-- each is a place among this many
abbrev pub AreBelow : ℕ → List ℕ → Type 0
AreBelow count steps = All (λ step. step < count) steps

-- names were put after others
abbrev pub GoesOn : (old new : List (String Global)) → Type 0
GoesOn old new = (more : List (String Global)) × (new ≡ old ++ more)
