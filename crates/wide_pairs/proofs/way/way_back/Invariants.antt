-- What the loop of `way_back` keeps.
use Rattle.std.proofs.Common.{◌≡◌, sum}
use Rattle.wide_pairs.specs.Avoiding.{test_of_pairs}
use Rattle.wide_pairs.specs.Ways.{IsReached}
use Rattle.wide_pairs.proofs.way.way_back.Given as goal

abbrev pub invariant-loop-events : goal.invariant-loop-events
invariant-loop-events g l = record {
  number : sum l.cut ≡ l.events;
  reached : IsReached l.computation.events (test_of_pairs (g.G.GoodPairs.good l.wanted) l.p l.q) l.path.items l.cut;
}

abbrev pub decreases-loop-events : goal.decreases-loop-events
decreases-loop-events g l = l.events
