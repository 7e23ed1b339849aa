-- The good counts are moved up to where the word's bits begin.
use Rattle.std.proofs.Common.{◌+◌}
use Rattle.walk_keys.specs.Words.{has_bit}
use Rattle.wide_pairs.proofs.GoodWords.{filled_by, moved_up, none_filled}
use Rattle.wide_pairs.proofs.grid_row.filled_word.Goals as goal

pub returns-then-from-to : goal.returns-then-from-to
returns-then-from-to g c =
    none_filled (λ d. g.G.GoodPairs.good c.args.wanted.now c.args.i (c.args.base + d)) (has_bit c.args.above)
    c.args.start c.args.from c.args.to c.if-from-to.true

pub returns : goal.returns
returns g c =
    let good = g.G.GoodPairs.good c.args.wanted.now c.args.i in
    filled_by (has_bit c.up-good.result) (λ d. good (c.args.base + d)) (has_bit c.args.above)
    (has_bit c.filled.result) c.args.start c.args.from c.args.to
    (moved_up good c.good_word.result c.up-good.result c.args.base c.args.from c.args.to c.requires.within
    c.good_word.ensures c.up-good.ensures.moved) c.filled.ensures
