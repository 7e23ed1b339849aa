-- The sum of one word more.
use Rattle.std.proofs.Common.{◌≡◌, ◌+◌, take, get_or, arith}
use Rattle.walk_keys.specs.Words.{set_below}
use Rattle.walk_marks.specs.Marks.{bits_in}
use Rattle.walk_marks.proofs.MarkCounts.{bits_more}
use Rattle.walk_marks.proofs.marks.bits.Goals as goal

pub loop-word-preserved : goal.loop-word-preserved
loop-word-preserved c =
    let more : bits_in (take (c.loop-word.word-index + 1) c.args.all.now)
    ≡ bits_in (take c.loop-word.word-index c.args.all.now)
    + set_below (get_or c.args.all.now c.loop-word.word-index 0) 64 =
    bits_more c.args.all.now c.loop-word.word-index c.loop-word-test.true in
    omega (arith, c.loop-word.invariant, c.count.ensures, c.in_ok-sum.ensures.1)
