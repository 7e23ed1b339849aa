-- The lists in vectors.
use Rattle.std.specs.Global.{Global}
use Rattle.std.specs.Prelude.{ℕ, List, Vec, map}

-- the list in each
abbrev pub items_of : List (Vec ℕ Global) → List (List ℕ)
items_of vectors = map (λ (v : Vec ℕ Global). v.items) vectors
