-- The cuts between the block's ends are those in the block.
use Rattle.std.proofs.Common.{arith}
use Rattle.pd_expand.proofs.PartFacts.{in_block}
use Rattle.pd_expand.proofs.blocks.expand_block.Goals as goal

pub returns-clause-part : goal.returns-clause-part
returns-clause-part c = record {
  list = in_block c.args.computation.now.events c.args.block _ _ c.args.level.now.cuts c.in_ok-next.next.cuts
      (omega arith) (omega (arith, c.min-count.ensures, c.len-cuts.ensures)) (omega arith) c.in_ok-next.ensures.list;
  number = c.in_ok-next.ensures.number;
}
