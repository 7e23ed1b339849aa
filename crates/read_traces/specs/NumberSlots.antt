-- What the slots of a column of numbers stand for.
use Rattle.std.specs.Prelude.{⊤, ℕ, ◌+◌, ◌-◌, ◌<◌, ◌^◌, if◌then◌else◌, nat_lt, List, map, ℤ, pos, negsuc, slice_index_or}

-- the number that a slot stands for: itself, or one of those that are too wide for a slot
abbrev pub number_in : (wide : List ℤ) → ℤ → ℤ
number_in wide (pos n) = pos n
number_in wide (negsuc k) = if nat_lt k (2 ^ 30) then negsuc k else slice_index_or wide (k - 2 ^ 30) (pos 0)

abbrev pub numbers_in : (wide slots : List ℤ) → List ℤ
numbers_in wide slots = map (number_in wide) slots

-- the slot stands for a number, if so many are too wide for one
abbrev pub IsSlot : (count : ℕ) → ℤ → Type 0
IsSlot count (pos n) = ⊤
IsSlot count (negsuc k) = k < 2 ^ 30 + count
