-- What the loop of `least_leaving` keeps.
use Rattle.std.proofs.Common.{◌<◌, ◌-◌, ℕ, length}
use Rattle.def_model.specs.Answers.{LeavesAvoiding}
use Rattle.wide_pairs.specs.Avoiding.{test_of_pairs}
use Rattle.wide_pairs.proofs.way.least_leaving.Given as goal

abbrev pub invariant-loop-r : goal.invariant-loop-r
invariant-loop-r g l = (k : ℕ) → k < l.r
    → ¬ LeavesAvoiding l.computation.events (test_of_pairs (g.G.GoodPairs.good l._wanted) l.p l.q) l.cut k

abbrev pub decreases-loop-r : goal.decreases-loop-r
decreases-loop-r g l = length l.cut - l.r
