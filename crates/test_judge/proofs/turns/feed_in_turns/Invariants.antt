-- What the loops of `feed_in_turns` keep.
use Rattle.std.proofs.Common.{◌≡◌, length}
use Rattle.test_judge.proofs.turns.feed_in_turns.Given as goal

abbrev pub invariant-loop-at : goal.invariant-loop-at
invariant-loop-at l = length l.core ≡ 2
