-- What the loop of `way_back` keeps.
use Rattle.std.proofs.Common.{◌≡◌, ◌<◌, length, sum}
use Rattle.wide_conjunctions.specs.Holds.{AreHolds, IsRunDown}
use Rattle.wide_conjunctions.specs.Ways.{IsReached}
use Rattle.wide_conjunctions.proofs.way.way_back.Given as goal

abbrev pub invariant-loop-events : goal.invariant-loop-events
invariant-loop-events g l = record {
  number : sum l.cut ≡ l.events;
  reached : IsReached l.computation.events (g.G.GoodCounts.good l.wanted) l.path.items l.cut;
  there : l.step.process < length l.computation.events;
  run : IsRunDown l.computation.events l.cut l.step.process l.step.stop;
  holds : AreHolds l.computation.events l.cut l.holds;
  starts_each : length l.starts ≡ length l.computation.events;
  leaves_each : length l.leaves ≡ length l.computation.events;
}

abbrev pub decreases-loop-events : goal.decreases-loop-events
decreases-loop-events g l = l.events
