-- What the loop of `go_up` keeps.
use Rattle.std.proofs.Common.{◌≡◌, ◌-◌, length, sum}
use Rattle.def_model.specs.Cuts.{total}
use Rattle.wide_conjunctions.specs.Raises.{IsBelowGood}
use Rattle.wide_conjunctions.proofs.least.go_up.Given as goal

abbrev pub invariant-loop-process : goal.invariant-loop-process
invariant-loop-process g l = record {
  below : IsBelowGood l.computation.events (g.G.GoodCounts.good l.wanted) l.counts;
  same : length l.counts ≡ length l.initial.counts;
}

abbrev pub decreases-loop-process : goal.decreases-loop-process
decreases-loop-process g l = total l.computation.events - sum l.counts
