-- The spots so far are those of the first runs.
use Rattle.std.proofs.Common.{◌≡◌, ◌<◌, ℕ, length, slice_index}
use Rattle.walk_marks.specs.Marks.{start_of}
use Rattle.walk_marks.specs.Spots.{HasSpots, IsSpot, spot_at}
use Rattle.walk_marks.proofs.spots.spots.Given as goal

abbrev pub invariant-loop-i : goal.invariant-loop-i
invariant-loop-i g l = record {
  one_each : length l.first.items ≡ l.i;
  starts : (k : ℕ) → k < l.i → slice_index l.first.items k ≡ start_of l.level.runs k;
  ends : length l.spots.items ≡ start_of l.level.runs l.i;
  spots_of : (k : ℕ) → k < l.i → HasSpots l.level.runs k l.spots.items (start_of l.level.runs k);
  each : (j : ℕ) → j < length l.spots.items → IsSpot l.level.runs (spot_at l.spots.items j);
}
