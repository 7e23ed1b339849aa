-- The least cut of the least good pair, if there is any.
use Rattle.wide_pairs.proofs.Bands.{pair_within}
use Rattle.wide_pairs.proofs.FirstPairs.{first_at, none_at}
use Rattle.wide_pairs.proofs.grid_possibly.first_at.Goals as goal

pub least_with_both-requires-clause-within_too : goal.least_with_both-requires-clause-within_too
least_with_both-requires-clause-within_too g c =
    pair_within c.args.computation.now.events c.args.p c.args.q c.args.i c.in-Some.j
    ((c.requires.row c.in-Some.j).1 (c.in-Some.ensures.0, c.in-Some.ensures.1))

pub returns-in-None-clause-none : goal.returns-in-None-clause-none
returns-in-None-clause-none g c =
    none_at c.args.computation.now.events (g.G.GoodPairs.good c.args.wanted.now) c.args.p c.args.q c.args.i c.args.low
    c.args.end c.requires.row c.in-None.ensures

pub returns-in_ok-cut-in-Some-clause-some : goal.returns-in_ok-cut-in-Some-clause-some
returns-in_ok-cut-in-Some-clause-some g c =
    first_at c.args.computation.now.events (g.G.GoodPairs.good c.args.wanted.now) c.args.p c.args.q c.args.i c.args.low
    c.args.end c.in-Some.j c.in_ok-cut-in-Some.cut c.requires.row c.in-Some.ensures c.in_ok-cut-in-Some.ensures
