-- Each cut lies in one block.
use Rattle.pd_expand.proofs.PartFacts.{in_one_block, in_some_block}
use Rattle.pd_expand.proofs.laws.blocks_cover_the_next_level.Goals as goal

pub returns-clause-some : goal.returns-clause-some
returns-clause-some c = in_some_block

pub returns-clause-one : goal.returns-clause-one
returns-clause-one c = in_one_block
