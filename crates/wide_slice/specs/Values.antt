-- A sum over processes: what each of them adds, by the count of its events.
use Rattle.std.specs.Prelude.{◌≡◌, ℕ, zero, suc, ◌≤◌, ◌^◌, List, [], ◌∷◌, length, ℤ, pos, ◌+ℤ◌, slice_index_or, unsigned_abs, Vec}
use Rattle.std.specs.Global.{Global}
use Rattle.def_model.specs.Events.{Computation}

-- the number of a row at a count, and 0 past its end
abbrev pub number_at : List ℤ → ℕ → ℤ
number_at row count = slice_index_or row count (pos 0)

-- what a process adds after this many of its events
abbrev pub value_of : List (Vec ℤ Global) → ℕ → ℕ → ℤ
value_of [] p count = pos 0
value_of (row ∷ rows) zero count = number_at row.items count
value_of (row ∷ rows) (suc p) count = value_of rows p count

-- what all processes add at a cut
abbrev pub sum_at : List (Vec ℤ Global) → List ℕ → ℤ
sum_at [] cut = pos 0
sum_at (row ∷ rows) [] = pos 0
sum_at (row ∷ rows) (count ∷ cut) = number_at row.items count +ℤ sum_at rows cut

-- no number is further from 0 than this
abbrev pub value_limit : ℕ
value_limit = 2 ^ 108

-- a row for each process
pub record AreValues (c : Computation) (values : List (Vec ℤ Global)) : Type 0 where
  pub one_each : length values ≡ length c
  pub small : (p count : ℕ) → unsigned_abs (value_of values p count) ≤ value_limit
