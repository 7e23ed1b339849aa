-- Each number that is drawn brings its block's part.
use Rattle.std.proofs.Common.{◌∙◌}
use Rattle.pd_expand.specs.Claims.{block_count, drawn}
use Rattle.pd_expand.proofs.PartFacts.{drawn_on, one_seat}
use Rattle.pd_expand.proofs.workers.expand_drawn.Goals as goal

pub loop-preserved : goal.loop-preserved
loop-preserved g c = (
  tt,
  tt,
  c.draw-block.ensures.own,
  drawn_on c.args.computation.now.events c.args.level.now c.blocks-blocks.result (block_count c.args.claims.now)
      (drawn c.loop.seat) (drawn c.draw-block.new.me) c.draw-block.result c.loop.parts c.with_block-parts.result
      (c.blocks-blocks.ensures ∙ c.requires.own.1) c.draw-block.ensures.drawn c.with_block-parts.ensures.parts
      c.loop.invariant.3,
)

pub returns-clause-parts : goal.returns-clause-parts
returns-clause-parts g c =
    one_seat c.args.computation.now.events c.args.level.now (block_count c.args.claims.now) c.loop.parts c.loop.seat
    c.loop.invariant.3
