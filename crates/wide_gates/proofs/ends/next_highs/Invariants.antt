-- The first processes have theirs at this spot, and the others those at the one before.
use Rattle.std.proofs.Common.{◌≡◌, ◌-◌, ◌<◌, ◌≤◌, get_or, length, ℕ}
use Rattle.wide_gates.specs.Highs.{HasNoneAfter, IsHigh}
use Rattle.wide_gates.specs.Spots.{event_of}
use Rattle.wide_gates.specs.declared.spot.Spot.{Spot}
use Rattle.wide_gates.proofs.ends.next_highs.Given as goal

abbrev pub invariant-loop-q : goal.invariant-loop-q
invariant-loop-q l = record {
  one_each : length l.highs ≡ length l.computation.events;
  known : (d : Spot) (p : ℕ) → p < l.q
      → IsHigh l.computation.events (event_of (get_or l.spots l.k d)) p (get_or l.highs p 0);
  rest : (d : Spot) (p : ℕ) → l.q ≤ p → p < length l.computation.events
      → HasNoneAfter l.computation.events (event_of (get_or l.spots (l.k - 1) d)) p (get_or l.highs p 0);
}
