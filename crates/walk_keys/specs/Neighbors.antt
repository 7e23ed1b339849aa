-- The cuts that agree in all counts but the last two.
use Rattle.std.specs.Prelude.{ℕ, List, [], ◌∷◌, ◌++◌}

-- the cut with the counts of the prefix, and the counts x and y of the last two processes
abbrev pub cut_at : List ℕ → ℕ → ℕ → List ℕ
cut_at prefix x y = prefix ++ x ∷ y ∷ []
