-- What the loop of `hold_of` keeps.
use Rattle.std.proofs.Common.{ℕ, ◌<◌, ◌≤◌, length}
use Rattle.wide_conjunctions.specs.Holds.{IsNeeded}
use Rattle.wide_conjunctions.proofs.holds.hold_of.Given as goal

abbrev pub invariant-loop-q : goal.invariant-loop-q
invariant-loop-q l = record {
  there : l.process < length l.computation.events;
  top : 0 < l.low → IsNeeded l.computation.events l.counts l.process l.p l.low;
  each : (q : ℕ) → q < l.q → (m : ℕ) × IsNeeded l.computation.events l.counts q l.p m × (m ≤ l.low);
}
