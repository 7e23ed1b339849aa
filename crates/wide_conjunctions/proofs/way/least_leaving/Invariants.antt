-- What the loop of `least_leaving` keeps.
use Rattle.std.proofs.Common.{◌≡◌, ◌<◌, ◌-◌, ℕ, length}
use Rattle.wide_conjunctions.specs.Boxes.{LeavesNoBox}
use Rattle.wide_conjunctions.specs.Holds.{AreHolds}
use Rattle.wide_conjunctions.proofs.way.least_leaving.Given as goal

abbrev pub invariant-loop-alloc : goal.invariant-loop-alloc
invariant-loop-alloc g l = record {
  none : (q : ℕ) → q < l.p → ¬ LeavesNoBox l.computation.events (g.G.GoodCounts.good l.wanted) l.cut q;
  holds : AreHolds l.computation.events l.cut l.holds;
  starts_each : length l.starts ≡ length l.computation.events;
  leaves_each : length l.leaves ≡ length l.computation.events;
}

abbrev pub decreases-loop-alloc : goal.decreases-loop-alloc
decreases-loop-alloc g l = length l.cut - l.p
