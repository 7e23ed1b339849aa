-- What the loop of `good_word` keeps: the bits so far.
use Rattle.std.proofs.Common.{◌≡◌, ℕ, ◌+◌, ◌<◌, ◌≤◌, false}
use Rattle.walk_keys.specs.Words.{has_bit}
use Rattle.wide_pairs.proofs.good_pairs.GoodPairs.good_word.Given as goal

abbrev pub invariant-loop-k : goal.invariant-loop-k
invariant-loop-k g l = record {
  within : (m : ℕ) → m < l.k → has_bit l.word m ≡ g.Self.GoodPairs.good l.self l.i (l.j + m);
  beyond : (m : ℕ) → l.k ≤ m → has_bit l.word m ≡ false;
}
