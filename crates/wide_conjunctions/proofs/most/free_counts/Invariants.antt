-- What the loop of `free_counts` keeps.
use Rattle.std.proofs.Common.{◌≡◌, ℕ, ◌<◌, get_or, length}
use Rattle.wide_conjunctions.specs.Firsts.{IsFreeCount}
use Rattle.wide_conjunctions.proofs.most.free_counts.Given as goal

abbrev pub invariant-loop-p : goal.invariant-loop-p
invariant-loop-p l = record {
  count : length l.counts.items ≡ l.p;
  each : (q : ℕ) → q < l.p → IsFreeCount l.computation.events l.firsts q (get_or l.counts.items q 0);
}
