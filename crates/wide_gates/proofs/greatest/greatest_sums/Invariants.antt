-- The sums so far.
use Rattle.std.proofs.Common.{◌≡◌, ℕ, ◌<◌, get_or, length, pos}
use Rattle.wide_gates.specs.Greatest.{IsMost}
use Rattle.wide_gates.specs.Spots.{IsAt}
use Rattle.wide_gates.specs.declared.spot.Spot.{Spot}
use Rattle.wide_gates.proofs.greatest.greatest_sums.Given as goal

abbrev pub invariant-loop-k : goal.invariant-loop-k
invariant-loop-k l = record {
  many : length l.sums.items ≡ l.k;
  each : (j : ℕ) (d : Spot) → j < l.k
      → IsMost (IsAt l.computation.events (get_or l.spots j d)) l.values (get_or l.sums.items j (pos 0));
}
