-- What the loop of `has_box` keeps.
use Rattle.std.proofs.Common.{length, sum}
use Rattle.wide_conjunctions.specs.Ways.{AreAboveBoxes}
use Rattle.wide_conjunctions.proofs.last.has_box.Given as goal

abbrev pub invariant-loop-r : goal.invariant-loop-r
invariant-loop-r g l =
    AreAboveBoxes l.computation.events (g.G.GoodCounts.good l.wanted) l.cut (length l.computation.events) l.starts
    l.leaves

abbrev pub decreases-loop-r : goal.decreases-loop-r
decreases-loop-r g l = sum l.starts
