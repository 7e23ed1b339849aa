-- A good count of a word, or a word without one.
use Rattle.std.proofs.Common.{◌-◌, ◌≤◌, arith}
use Rattle.wide_pairs.proofs.GoodWords.{found, none_more}
use Rattle.wide_pairs.proofs.band.first_good.Goals as goal

pub returns-then-word-ne0 : goal.returns-then-word-ne0
returns-then-word-ne0 g c =
    let n = c.min-n.result in
    let most : n ≤ c.args.end - c.loop-j.j = omega (arith, c.min-n.ensures) in
    found (g.G.GoodPairs.good c.args.wanted.now c.args.i) c.both-word.result c.good_word.result c.lowest.result
    c.args.low c.loop-j.j n c.both-word.ensures c.lowest.ensures.within c.lowest.ensures.beyond
    c.good_word.ensures c.loop-j.invariant.none c.args.end c.least.result c.loop-j.invariant.from
    (omega (arith, most, c.loop-j-test.true)) c.least.ensures.set c.least.ensures.least

pub loop-j-preserved : goal.loop-j-preserved
loop-j-preserved g c = record {
  from = omega (arith, c.loop-j.invariant.from);
  none = none_more (g.G.GoodPairs.good c.args.wanted.now c.args.i) c.both-word.result c.good_word.result
      c.lowest.result c.args.low c.loop-j.j c.min-n.result c.both-word.ensures c.lowest.ensures.within
      c.lowest.ensures.beyond c.good_word.ensures c.loop-j.invariant.none
      (c.words.ensures.none.0 c.if-word-ne0.false);
}
