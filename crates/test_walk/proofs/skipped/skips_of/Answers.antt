-- The bit is one of a word.
use Rattle.test_walk.proofs.skipped.skips_of.Goals as goal

pub returns : goal.returns
returns c =
    (c.of.ensures c.args._tests.now c.args._test.now c.args._level.now c.requires.skipped c.requires.within).few
