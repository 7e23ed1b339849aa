-- What the loop of `go_on` keeps.
use Rattle.std.proofs.Common.{◌-◌, length, sum}
use Rattle.def_model.specs.Cuts.{total}
use Rattle.wide_conjunctions.specs.Intervals.{AreBelowBoxes}
use Rattle.wide_conjunctions.proofs.box_least.go_on.Given as goal

abbrev pub invariant-loop-q : goal.invariant-loop-q
invariant-loop-q g l =
    AreBelowBoxes l.computation.events (g.G.GoodCounts.good l.wanted) (length l.computation.events) l.starts l.leaves

abbrev pub decreases-loop-q : goal.decreases-loop-q
decreases-loop-q g l = total l.computation.events - sum l.starts
