-- What the loop of `most_counts` keeps.
use Rattle.std.proofs.Common.{◌≡◌, ℕ, ◌<◌, get_or, length}
use Rattle.wide_pairs.specs.Mosts.{IsMostCount}
use Rattle.wide_pairs.proofs.most.most_counts.Given as goal

abbrev pub invariant-loop-r : goal.invariant-loop-r
invariant-loop-r l = record {
  count : length l.counts.items ≡ l.r;
  each : (k : ℕ) → k < l.r → IsMostCount l.computation.events l.p l.q l.i l.j k (get_or l.counts.items k 0);
}
