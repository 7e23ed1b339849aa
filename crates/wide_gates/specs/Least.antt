-- The least of some numbers.
use Rattle.std.specs.Prelude.{◌≡◌, ℕ, ◌<◌, ◌≤◌, min, Bool, true, false, List, Option, Some, None, slice_index, slice_index_or}

abbrev pub lesser_of : Option ℕ → ℕ → ℕ
lesser_of None number = number
lesser_of (Some least) number = min least number

-- of the first n places none is flagged
abbrev pub NoneFlagged : List Bool → ℕ → Type 0
NoneFlagged flags n = (k : ℕ) → k < n → slice_index_or flags k false ≡ false

-- the least number of those that are
pub record IsLeastFlagged (numbers : List ℕ) (flags : List Bool) (n least : ℕ) : Type 0 where
  pub place : ℕ
  pub there : place < n
  pub flagged : slice_index_or flags place false ≡ true
  pub is : slice_index numbers place ≡ least
  pub none_less : (k : ℕ) → k < n → slice_index_or flags k false ≡ true → least ≤ slice_index numbers k
