-- What the loop of `stop_of` keeps.
use Rattle.std.proofs.Common.{ℕ, ◌<◌}
use Rattle.wide_conjunctions.specs.Holds.{IsFreeAbove, IsHeldAbove}
use Rattle.wide_conjunctions.proofs.holds.stop_of.Given as goal

abbrev pub invariant-loop-r : goal.invariant-loop-r
invariant-loop-r l = record {
  free : IsFreeAbove l.computation.events l.counts l.p l.stop;
  held : (r : ℕ) → r < l.r → IsHeldAbove l.computation.events l.counts l.p l.stop r;
}
