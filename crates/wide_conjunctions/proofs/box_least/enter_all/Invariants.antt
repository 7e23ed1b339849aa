-- What the loop of `enter_all` keeps.
use Rattle.wide_conjunctions.specs.Intervals.{AreBelowBoxes}
use Rattle.wide_conjunctions.proofs.box_least.enter_all.Given as goal

abbrev pub invariant-loop-q : goal.invariant-loop-q
invariant-loop-q g l = AreBelowBoxes l.computation.events (g.G.GoodCounts.good l.wanted) l.q l.starts l.leaves
