-- A good count of a word, or a word without one.
use Rattle.std.proofs.Common.{arith}
use Rattle.wide_terms.specs.Rows.{term_allows}
use Rattle.wide_terms.proofs.TruthSteps.{is_next, is_past, none_in_word}
use Rattle.wide_terms.proofs.terms.TermGoodCounts.next_good.Goals as goal

pub loop-at-preserved : goal.loop-at-preserved
loop-at-preserved c = record {
  order = omega (arith, c.loop-at.invariant.order);
  passed = none_in_word (term_allows c.args.self.now.rows.now c.args.self.now.numbers.now c.args.process) c.args.from
      c.loop-at.at c.word-whole.result c.down-word.result c.word-whole.ensures c.words.ensures.beyond
      c.down-word.ensures c.loop-at.invariant.passed (c.words-in-loop-at.ensures.none.0 c.if-word-ne0.false);
}

pub returns-then-next-last-clause-some : goal.returns-then-next-last-clause-some
returns-then-next-last-clause-some c =
    is_next (term_allows c.args.self.now.rows.now c.args.self.now.numbers.now c.args.process) c.args.from c.loop-at.at
    c.word-whole.result c.down-word.result c.word-whole.ensures c.words.ensures.beyond c.down-word.ensures
    c.loop-at.invariant.passed c.least.result c.loop-at.invariant.order c.least.ensures.set c.least.ensures.least

pub returns-else-next-last-clause-none : goal.returns-else-next-last-clause-none
returns-else-next-last-clause-none c =
    is_past (term_allows c.args.self.now.rows.now c.args.self.now.numbers.now c.args.process) c.args.from c.loop-at.at
    c.word-whole.result c.down-word.result c.word-whole.ensures c.words.ensures.beyond c.down-word.ensures
    c.loop-at.invariant.passed c.least.result c.args.last c.least.ensures.set c.least.ensures.least (omega arith)
