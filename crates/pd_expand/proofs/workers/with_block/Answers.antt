-- A block brings its part, and a number past the blocks none.
use Rattle.std.proofs.Common.{IfOk, subst}
use Rattle.pd_expand.specs.ClaimRule.{times}
use Rattle.pd_expand.specs.Parts.{ArePartsOf}
use Rattle.pd_expand.proofs.PartFacts.{Kept, no_block_kept, one_block}
use Rattle.pd_expand.proofs.workers.with_block.Goals as goal

pub returns-then-block-blocks : goal.returns-then-block-blocks
returns-then-block-blocks g c = record {
  parts = λ numbers are.
      no_block_kept c.args.computation.now.events c.args.level.now c.args.blocks numbers c.args.block c.args.parts
      c.if-block-blocks.true are;
}

pub returns : goal.returns
returns g c = record {
  parts = λ numbers are.
      one_block c.args.computation.now.events c.args.level.now c.args.blocks numbers c.args.block
      c.in_ok-parts.parts.items c.push.new.self.items c.in_ok-part.part c.in_ok-part.ensures.block
      c.in_ok-part.ensures.part c.in_ok-push.ensures.items
      (subst (λ (kept : Kept). IfOk kept (λ parts. ArePartsOf c.args.computation.now.events c.args.level.now
      c.args.blocks (λ x. times x numbers) parts.items)) c.in_ok-parts.was are);
}
