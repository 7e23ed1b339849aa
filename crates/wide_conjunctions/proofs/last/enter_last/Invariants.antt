-- What the loop of `enter_last` keeps.
use Rattle.wide_conjunctions.specs.Ways.{AreAboveBoxes}
use Rattle.wide_conjunctions.proofs.last.enter_last.Given as goal

abbrev pub invariant-loop-q : goal.invariant-loop-q
invariant-loop-q g l =
    AreAboveBoxes l.computation.events (g.G.GoodCounts.good l.wanted) l.cut l.q l.starts l.leaves
