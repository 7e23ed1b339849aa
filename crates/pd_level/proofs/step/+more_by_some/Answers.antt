-- One process alone, or two halves.
use Rattle.std.proofs.Common.{arith}
use Rattle.pd_level.proofs.Ranges.{both_made, one_made}
use Rattle.pd_level.proofs.step.+more_by_some.Goals as goal

pub returns-then-last-first-eq1 : goal.returns-then-last-first-eq1
returns-then-last-first-eq1 g t c = record {
  more = one_made c.args.computation.now.events c.args.keys.now c.more_between.result c.args.from c.args.to c.args.first
      c.args.last c.if-last-first-eq1.true c.more_between.ensures.ascending c.more_between.ensures.just;
}

pub returns : goal.returns
returns g t c = record {
  more = both_made c.args.computation.now.events c.args.keys.now c.in_ok-left.left c.in_ok-right.right
      c.merge.result c.args.from c.args.to c.args.first _ c.args.last (omega arith) (omega arith)
      c.in_ok-left.ensures.more c.in_ok-right.ensures.more c.merge.ensures.ascending c.merge.ensures.just;
}
