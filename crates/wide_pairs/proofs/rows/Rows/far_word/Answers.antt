-- One count more.
use Rattle.std.proofs.Common.{◌+◌, ◌∙◌, arith}
use Rattle.wide_pairs.specs.Tests.{rows_hold}
use Rattle.wide_pairs.proofs.Bits.{all_below, one_below}
use Rattle.wide_pairs.proofs.rows.Rows.far_word.Goals as goal

pub loop-k-preserved : goal.loop-k-preserved
loop-k-preserved c = record {
  within = omega (arith, c.loop-k.invariant.within);
  bits = one_below (λ k. rows_hold c.args.self.now c.args.i (c.args.j + k)) c.loop-k.word c.below-word.result c.args.n
      c.loop-k.k c.loop-k-test.true c.loop-k.invariant.within c.requires.few
      (c.below-word.ensures.first ∙ c.hold.ensures) c.below-word.ensures.moved c.loop-k.invariant.bits;
}

pub returns : goal.returns
returns c =
    all_below (λ k. rows_hold c.args.self.now c.args.i (c.args.j + k)) c.loop-k.word c.args.n c.loop-k.k
    c.loop-k-test.false c.loop-k.invariant.bits
