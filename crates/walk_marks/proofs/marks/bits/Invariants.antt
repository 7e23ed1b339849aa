-- The sum is that of the words so far.
use Rattle.std.proofs.Common.{◌≡◌, take}
use Rattle.walk_marks.specs.Marks.{bits_in}
use Rattle.walk_marks.proofs.marks.bits.Given as goal

abbrev pub invariant-loop-word : goal.invariant-loop-word
invariant-loop-word l = l.sum ≡ bits_in (take l.word-index l.all)
