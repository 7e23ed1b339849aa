-- The value of each variable at a cut, as it is looked up.
use Rattle.std.specs.Prelude.{◌≡◌, ℕ, ◌+◌, ◌*◌, ◌≤◌, List, [], length, nat_lt, cond, ℤ, pos, Vec, slice_index, slice_index_or, slice_get, Option, Some, None}
use Rattle.std.specs.Global.{Global}

abbrev pub values_in : Option (Vec ℤ Global) → List ℤ
values_in None = []
values_in (Some row) = row.items

-- the row with this number, and no values where there is none
abbrev pub values_at : List (Vec ℤ Global) → ℕ → List ℤ
values_at rows p = values_in (slice_get rows p)

abbrev pub history_in : Option (List ℤ) → List ℤ
history_in None = []
history_in (Some history) = history

-- the history with this number, and no values where there is none
abbrev pub history_at : List (List ℤ) → ℕ → List ℤ
history_at histories p = history_in (slice_get histories p)

-- the value of variable v after the first `count` events of a process, in the history that begins with these values; 0
-- for what isn't there
abbrev pub value_in : List ℤ → List ℤ → ℕ → ℕ → ℤ
value_in start history count v =
    cond (nat_lt v (length start)) (slice_index_or history (count * length start + v) (pos 0)) (pos 0)

-- the value of variable v of process p after the events that are counted; 0 for what isn't there
abbrev pub value_at : List (Vec ℤ Global) → List (List ℤ) → List ℕ → ℕ → ℕ → ℤ
value_at initial histories counts p v = value_in (values_at initial p) (history_at histories p) (slice_index counts p) v

-- each history has the rows up to the count
pub record IsLookedUp (initial : List (Vec ℤ Global)) (histories : List (List ℤ)) (counts : List ℕ) : Type 0 where
  pub histories_there : length histories ≡ length initial
  pub counts_there : length counts ≡ length initial
  pub rows_there : (p : ℕ) → slice_index counts p * length (values_at initial p) + length (values_at initial p)
      ≤ length (history_at histories p)
