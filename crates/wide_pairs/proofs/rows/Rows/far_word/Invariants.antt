-- What the loop of `far_word` keeps: the bits of the counts from `k` on.
use Rattle.std.proofs.Common.{◌≡◌, ℕ, ◌+◌, ◌<◌, ◌≤◌}
use Rattle.walk_keys.specs.Words.{has_bit}
use Rattle.wide_pairs.specs.Tests.{rows_hold}
use Rattle.wide_pairs.proofs.rows.Rows.far_word.Given as goal

abbrev pub invariant-loop-k : goal.invariant-loop-k
invariant-loop-k l = record {
  within : l.k ≤ l.n;
  bits : (d : ℕ) → l.k + d < l.n → has_bit l.word d ≡ rows_hold l.self l.i (l.j + (l.k + d));
}

abbrev pub decreases-loop-k : goal.decreases-loop-k
decreases-loop-k l = l.k
