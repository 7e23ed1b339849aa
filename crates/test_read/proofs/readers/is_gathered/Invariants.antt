-- There are two streams.
use Rattle.std.proofs.Common.{◌≡◌, length}
use Rattle.test_read.proofs.readers.is_gathered.Given as goal

abbrev pub invariant-loop-piece : goal.invariant-loop-piece
invariant-loop-piece l = length l.core ≡ 2
