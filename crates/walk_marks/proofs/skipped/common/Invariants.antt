-- The bits so far are those that all words so far have.
use Rattle.std.proofs.Common.{◌<◌, ℕ, IsTrue, slice_index}
use Rattle.walk_keys.specs.Words.{has_bit}
use Rattle.walk_marks.proofs.skipped.common.Given as goal

abbrev pub invariant-loop-i : goal.invariant-loop-i
invariant-loop-i l =
    (q k : ℕ) → IsTrue (has_bit l.bits q) → k < l.i → IsTrue (has_bit (slice_index l.words k) q)
