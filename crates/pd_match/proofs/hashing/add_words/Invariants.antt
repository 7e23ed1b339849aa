-- What the loops of `add_words` keep.
use Rattle.std.proofs.Common.{◌≡◌}
use Rattle.pd_match.specs.IdHash.{sum_words}
use Rattle.pd_match.proofs.hashing.add_words.Given as goal

abbrev pub invariant-loop-i : goal.invariant-loop-i
invariant-loop-i l = l.sum ≡ sum_words l.keys l.fn.sum l.bytes l.i
