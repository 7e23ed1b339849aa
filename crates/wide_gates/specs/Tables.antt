-- The greatest numbers of a row between two counts.
use Rattle.std.specs.Prelude.{◌≡◌, ℕ, ◌+◌, ◌<◌, ◌≤◌, ◌^◌, true, false, List, length, ℤ, pos, ◌≤ℤ◌, slice_index_or, Vec}
use Rattle.std.specs.Global.{Global}
use Rattle.wide_slice.specs.Values.{number_at}
use Rattle.wide_gates.specs.declared.table.Table.{Table}

-- the greatest number of a row from one count up to another, which is left out
pub record IsGreatest (row : List ℤ) (low end : ℕ) (x : ℤ) : Type 0 where
  pub count : ℕ
  pub from : low ≤ count
  pub up_to : count < end
  pub is : number_at row count ≡ x
  pub most : (other : ℕ) → low ≤ other → other < end → number_at row other ≤ℤ x

-- of the counts below n the greatest numbers among as many as the width from each one on
pub record HasWidth (row : List ℤ) (n width : ℕ) (level : List ℤ) : Type 0 where
  pub many : length level + width ≡ n + 1
  pub each : (k : ℕ) → k + width ≤ n → IsGreatest row k (k + width) (slice_index_or level k (pos 0))

-- no event makes its number less
abbrev pub IsRising : List ℤ → ℕ → Type 0
IsRising row events = (m n : ℕ) → m ≤ n → n ≤ events → number_at row m ≤ℤ number_at row n

-- for each power of 2, unless the row never falls
pub record IsTable (row : List ℤ) (events : ℕ) (table : Table) : Type 0 where
  pub rising : table.rises ≡ true → IsRising row events
  pub some : table.rises ≡ false → (k : ℕ) → 2 ^ k ≤ events + 1 → k < length table.levels.items
  pub each : table.rises ≡ false → (k : ℕ) (d : Vec ℤ Global) → 2 ^ k ≤ events + 1
      → HasWidth row (events + 1) (2 ^ k) (slice_index_or table.levels.items k d).items
