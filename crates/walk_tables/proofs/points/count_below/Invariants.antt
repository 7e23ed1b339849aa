-- The numbers before the one end are less, and those from the other end on are not.
use Rattle.std.proofs.Common.{ℕ, ◌-◌, ◌<◌, ◌≤◌, length}
use Rattle.std.specs.Prelude.{◌<ℤ◌, ◌≤ℤ◌}
use Rattle.walk_tables.specs.Points.{point_at}
use Rattle.walk_tables.proofs.points.count_below.Given as goal

abbrev pub invariant-loop-low : goal.invariant-loop-low
invariant-loop-low l = record {
  order : l.low ≤ l.high;
  within : l.high ≤ length l.points;
  below : (k : ℕ) → k < l.low → point_at l.points k <ℤ l.value;
  rest : (k : ℕ) → l.high ≤ k → k < length l.points → l.value ≤ℤ point_at l.points k;
}

abbrev pub decreases-loop-low : goal.decreases-loop-low
decreases-loop-low l = l.high - l.low
