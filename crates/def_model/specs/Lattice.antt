-- The countwise order of cuts, and the least and greatest of two.
use Rattle.std.specs.Prelude.{ℕ, ◌≤◌, min, max, List, [], ◌∷◌, slice_index}

-- no count is above the other cut's count of the same process
abbrev pub IsWithin : List ℕ → List ℕ → Type 0
IsWithin a b = (p : ℕ) → slice_index a p ≤ slice_index b p

-- the lesser of the two counts of each process
abbrev pub meet : List ℕ → List ℕ → List ℕ
meet [] bs = []
meet (a ∷ as') [] = []
meet (a ∷ as') (b ∷ bs) = min a b ∷ meet as' bs

-- the greater of the two counts of each process
abbrev pub join : List ℕ → List ℕ → List ℕ
join [] bs = bs
join (a ∷ as') [] = a ∷ as'
join (a ∷ as') (b ∷ bs) = max a b ∷ join as' bs
