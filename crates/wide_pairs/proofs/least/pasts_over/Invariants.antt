-- What the loop of `pasts_over` keeps.
use Rattle.std.proofs.Common.{◌≡◌, ℕ, ◌-◌, ◌<◌, get_or, length}
use Rattle.wide_pairs.specs.LeastCuts.{IsLeastWith, IsPast}
use Rattle.wide_pairs.proofs.least.pasts_over.Given as goal

abbrev pub invariant-loop-count : goal.invariant-loop-count
invariant-loop-count l = record {
  least : IsLeastWith l.computation.events l.p (l.count - 1) l.counts;
  count : length l.pasts.items ≡ l.count;
  each : (i : ℕ) → i < l.count → IsPast l.computation.events l.p i l.q (get_or l.pasts.items i 0);
}
