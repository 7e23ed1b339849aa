-- The values of a process's variables after each of its events.
use Rattle.std.specs.Prelude.{ℕ, ◌<◌, List, [], ◌∷◌, ◌++◌, slice_set, All, ℤ}
use Rattle.def_model.specs.Events.{Event}

-- the values after these settings, one after another
abbrev pub row_after : List ℤ → List (ℕ × ℤ) → List ℤ
row_after row [] = row
row_after row ((v, value) ∷ rest) = row_after (slice_set row v value) rest

-- the rows of values after each event, one after another
abbrev pub rows_after : List ℤ → List Event → List ℤ
rows_after row [] = []
rows_after row (event ∷ later) = row_after row event.sets ++ rows_after (row_after row event.sets) later

-- each variable that is set is there
abbrev pub AreVars : ℕ → List (ℕ × ℤ) → Type 0
AreVars vars sets = All (λ (set : ℕ × ℤ). set.0 < vars) sets
