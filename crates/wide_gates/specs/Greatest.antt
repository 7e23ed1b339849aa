-- The greatest sums of rows at a spot.
use Rattle.std.specs.Prelude.{◌≡◌, ℕ, ◌*◌, ◌<◌, ◌≤◌, List, length, ℤ, ◌≤ℤ◌, pos, slice_index, slice_index_or, unsigned_abs, Vec}
use Rattle.std.specs.Global.{Global}
use Rattle.def_model.specs.Events.{Computation}
use Rattle.wide_slice.specs.Values.{sum_at, value_limit}
use Rattle.wide_gates.specs.Ranges.{InRanges}
use Rattle.wide_gates.specs.Spots.{IsAt}
use Rattle.wide_gates.specs.declared.range.Range.{Range}
use Rattle.wide_gates.specs.declared.spot.Spot.{Spot}

-- the greatest sum over the first n processes, each of which has a count that it may have by itself
pub record IsMostUpTo (values : List (Vec ℤ Global)) (May : ℕ → ℕ → Type 0) (n : ℕ) (x : ℤ) : Type 0 where
  pub counts : List ℕ
  pub many : length counts ≡ n
  pub each : (q : ℕ) → q < n → May q (slice_index counts q)
  pub is : sum_at values counts ≡ x
  pub most : (other : List ℕ) → length other ≡ n → ((q : ℕ) → q < n → May q (slice_index other q))
      → sum_at values other ≤ℤ x
  pub small : unsigned_abs x ≤ n * value_limit

-- the greatest sum of the first n processes over the counts of each box
pub record AreBoxSums (boxes : List (Vec Range Global)) (values : List (Vec ℤ Global)) (n : ℕ) (sums : List ℤ) : Type 0
  where
    pub one_each : length sums ≡ length boxes
    pub each : (i : ℕ) (b : Vec Range Global) → i < length boxes
        → IsMostUpTo values (InRanges (slice_index_or boxes i b).items) n (slice_index_or sums i (pos 0))

-- the greatest sum over the counts of a set
pub record IsMost (InSet : List ℕ → Type 0) (values : List (Vec ℤ Global)) (x : ℤ) : Type 0 where
  pub counts : List ℕ
  pub inside : InSet counts
  pub is : sum_at values counts ≡ x
  pub most : (other : List ℕ) → InSet other → sum_at values other ≤ℤ x

-- at each spot
pub record AreMost (c : Computation) (spots : List Spot) (values : List (Vec ℤ Global)) (sums : List ℤ) : Type 0 where
  pub one_each : length sums ≡ length spots
  pub each : (k : ℕ) (d : Spot) → k < length spots
      → IsMost (IsAt c (slice_index_or spots k d)) values (slice_index_or sums k (pos 0))
