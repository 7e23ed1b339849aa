-- A set of single numbers.
use Rattle.std.specs.Prelude.{ℕ, ◌<◌, List, [], ◌∷◌, length, ℤ, pos, ◌<ℤ◌, slice_index_or, Bool, false, ◌||◌}
use Rattle.std.specs.Ordering.{int_eq}

abbrev pub point_at : List ℤ → ℕ → ℤ
point_at points n = slice_index_or points n (pos 0)

-- each number is less than those after it
abbrev pub Ascend : List ℤ → Type 0
Ascend points = (i j : ℕ) → i < j → j < length points → point_at points i <ℤ point_at points j

-- whether the number is one of these
abbrev pub has_point : List ℤ → ℤ → Bool
has_point [] value = false
has_point (point ∷ rest) value = int_eq value point || has_point rest value
