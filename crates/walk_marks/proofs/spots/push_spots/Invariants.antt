-- The spots so far are those of the run's first words.
use Rattle.std.proofs.Common.{◌≡◌, ◌+◌, ◌*◌, ◌<◌, ℕ, length}
use Rattle.walk_marks.specs.Spots.{spot_at}
use Rattle.walk_marks.proofs.spots.push_spots.Given as goal

abbrev pub invariant-loop-b : goal.invariant-loop-b
invariant-loop-b g l = record {
  more : length l.spots.items ≡ length l.fn.spots.items + l.b;
  others : (k : ℕ) → k < length l.fn.spots.items → spot_at l.spots.items k ≡ spot_at l.fn.spots.items k;
  run : (q : ℕ) → q < l.b
      → spot_at l.spots.items (length l.fn.spots.items + q) ≡ record { run = l.i; x = l.lo + 64 * q };
}
