-- The counts of one word more are true.
use Rattle.std.proofs.Common.{◌∙◌, arith}
use Rattle.wide_terms.proofs.TruthSteps.{run_inside, run_outside}
use Rattle.wide_terms.proofs.truths.set_run.Goals as goal

pub loop-at-preserved : goal.loop-at-preserved
loop-at-preserved c = record {
  order = omega (arith, c.loop-at.invariant.order);
  within = omega (arith, c.min-n.ensures);
  same = c.set_part.ensures.same ∙ c.loop-at.invariant.same;
  inside = run_inside c.args.words.now c.loop-at.words c.set_part.new.words c.args.from c.loop-at.at c.min-n.result
      c.loop-at.invariant.order c.loop-at.invariant.inside c.loop-at.invariant.outside c.set_part.ensures.inside
      c.set_part.ensures.outside;
  outside = run_outside c.args.words.now c.loop-at.words c.set_part.new.words c.args.from c.loop-at.at c.min-n.result
      c.loop-at.invariant.order c.loop-at.invariant.inside c.loop-at.invariant.outside c.set_part.ensures.inside
      c.set_part.ensures.outside;
}
