-- The counts that processes have in cuts of the slice, above those of the least one, and which of them stand in the
-- past of one of another process.
use Rattle.std.specs.Prelude.{◌≡◌, ◌≢◌, ℕ, ◌+◌, ◌<◌, ◌≤◌, ◌⊎◌, Bool, true, false, List, [], length, map, slice_index, slice_index_or, Vec}
use Rattle.std.specs.Global.{Global}
use Rattle.def_format.specs.Limits.{event_limit}
use Rattle.def_model.specs.Events.{Computation, event_count}
use Rattle.wide_conjunctions.specs.LeastCuts.{IsLeastGood}
use Rattle.wide_slice.specs.Goods.{IsInside, good_from}
use Rattle.wide_slice.specs.declared.points.Point.{Point}

abbrev pub counts_view : List Point → List ℕ
counts_view points = map (λ (point : Point). point.count) points

abbrev pub pasts_view : List Point → List (List ℕ)
pasts_view points = map (λ (point : Point). point.past) points

abbrev pub rows_view : List (Vec Point Global) → List (List Point)
rows_view rows = map (λ (row : Vec Point Global). row.items) rows

abbrev pub flags_view : List (Vec Bool Global) → List (List Bool)
flags_view asked = map (λ (flags : Vec Bool Global). flags.items) asked

abbrev pub count_at : List Point → ℕ → ℕ
count_at points k = slice_index (counts_view points) k

abbrev pub past_at : List Point → ℕ → List ℕ
past_at points k = slice_index_or (pasts_view points) k []

-- the points of process p
abbrev pub row_at : List (Vec Point Global) → ℕ → List Point
row_at rows p = slice_index_or (rows_view rows) p []

abbrev pub flags_at : List (Vec Bool Global) → ℕ → List Bool
flags_at asked p = slice_index_or (flags_view asked) p []

-- whether a count is marked
abbrev pub flag : List Bool → ℕ → Bool
flag flags count = slice_index_or flags count false

-- the point of process p at the least cut of the slice with this count of it or more
pub record IsPoint (c : Computation) (good : ℕ → ℕ → Bool) (p from : ℕ) (counts : List ℕ) (point : Point) : Type 0 where
  pub past_is : point.past ≡ counts
  pub own : slice_index counts p ≡ point.count
  pub least : IsLeastGood c (good_from good p from) counts

-- The points of process p, whose count in the least cut is `low`.
pub record IsRow (c : Computation) (good : ℕ → ℕ → Bool) (p low : ℕ) (points : List Point) : Type 0 where
  pub few : length points ≤ event_limit
  pub each : (k : ℕ) → k < length points → IsLeastGood c (good_from good p (count_at points k)) (past_at points k)
  pub own : (k : ℕ) → k < length points → slice_index (past_at points k) p ≡ count_at points k
  pub above : (k : ℕ) → k < length points → low < count_at points k
  pub ordered : (i j : ℕ) → i < j → j < length points → count_at points i < count_at points j
  pub all : (cut : List ℕ) → IsInside c good cut
      → (slice_index cut p ≡ low) ⊎ ((k : ℕ) × (k < length points) × (count_at points k ≡ slice_index cut p))

-- of each process
pub record AreRows (c : Computation) (good : ℕ → ℕ → Bool) (least : List ℕ) (rows : List (Vec Point Global)) : Type 0
  where
    pub one_each : length rows ≡ length c
    pub each : (p : ℕ) → p < length c → IsRow c good p (slice_index least p) (row_at rows p)

-- each past has a count for each process, none above the number of its events
pub record ArePasts (c : Computation) (rows : List (Vec Point Global)) : Type 0 where
  pub one_each : (p k : ℕ) → p < length c → k < length (row_at rows p)
      → length (past_at (row_at rows p) k) ≡ length c
  pub within : (p k q : ℕ) → p < length c → k < length (row_at rows p)
      → slice_index (past_at (row_at rows p) k) q ≤ event_count c q

-- the counts of process q in the pasts of the first points, this many, are marked
abbrev pub IsAskedBy : List Point → ℕ → ℕ → List Bool → Type 0
IsAskedBy points q many flags = (k : ℕ) → k < many → flag flags (slice_index (past_at points k) q) ≡ true

-- the counts of process q in the pasts of all points of other processes are marked
pub record IsAsked (c : Computation) (rows : List (Vec Point Global)) (q : ℕ) (flags : List Bool) : Type 0 where
  pub many : length flags ≡ event_count c q + 1
  pub by_each : (p : ℕ) → p < length c → p ≢ q → IsAskedBy (row_at rows p) q (length (row_at rows p)) flags

-- of each process
pub record AreAsked (c : Computation) (rows : List (Vec Point Global)) (asked : List (Vec Bool Global)) : Type 0 where
  pub one_each : length asked ≡ length c
  pub each : (q : ℕ) → q < length c → IsAsked c rows q (flags_at asked q)
