-- What is reached of the counts that aren't good.
use Rattle.walk_keys.specs.Words.{has_bit}
use Rattle.wide_pairs.proofs.GoodWords.{filled_reached, free_inside, free_outside}
use Rattle.wide_pairs.proofs.grid_row.filled.Goals as goal

pub returns : goal.returns
returns c =
    let top = has_bit c.lowest.result in
    let bottom = has_bit c.lowest-2.result in
    let span = has_bit c.without-span.result in
    let good = has_bit c.args.good in
    let free = has_bit c.without.result in
    filled_reached good (has_bit c.args.above) (has_bit c.reached.result) free (has_bit c.with_start.result)
    c.args.start c.args.from c.args.to c.requires.order c.requires.within
    (free_inside top bottom span good free c.args.from c.args.to c.lowest.ensures.within c.lowest.ensures.beyond
    c.lowest-2.ensures.within c.lowest-2.ensures.beyond c.without-span.ensures c.without.ensures)
    (free_outside top bottom span good free c.args.from c.args.to c.lowest.ensures.within c.lowest.ensures.beyond
    c.lowest-2.ensures.within c.lowest-2.ensures.beyond c.without-span.ensures c.without.ensures)
    c.with_start.ensures.here c.with_start.ensures.others c.reached.ensures.within c.reached.ensures.lowest
    c.reached.ensures.next
