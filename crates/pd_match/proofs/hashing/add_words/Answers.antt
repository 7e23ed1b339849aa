-- The sum with some words of an id.
use Rattle.std.proofs.Common.{add-one, refl}
use Rattle.pd_match.specs.IdHash.{sum_words}
use Rattle.pd_match.proofs.hashing.add_words.Goals as goal

pub loop-i-init : goal.loop-i-init
unfolding sum_words
loop-i-init c = refl

pub loop-i-preserved : goal.loop-i-preserved
unfolding sum_words
loop-i-preserved c =
    rw (add-one c.loop-i.i, c.add_term-sum.ensures, c.word.ensures, ← c.loop-i.invariant)
