-- Sums that are computed.
use Rattle.std.specs.Prelude.{ℕ, ◌≤◌, List, ℤ, length, unsigned_abs, Vec}
use Rattle.std.specs.Global.{Global}
use Rattle.def_format.specs.Limits.{process_limit}
use Rattle.wide_slice.specs.Values.{value_limit, value_of}

-- no more rows than there may be processes, with no number further from 0 than the limit
pub record AreSmall (values : List (Vec ℤ Global)) : Type 0 where
  pub few : length values ≤ process_limit
  pub small : (p count : ℕ) → unsigned_abs (value_of values p count) ≤ value_limit
