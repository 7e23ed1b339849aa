-- The lowest bits are moved up.
use Rattle.wide_terms.proofs.TruthSteps.{moved_inside, moved_outside}
use Rattle.wide_terms.proofs.truths.run_of.Goals as goal

pub returns-clause-inside : goal.returns-clause-inside
returns-clause-inside c =
    moved_inside c.lowest.result c.up.result c.args.low c.args.n c.up.ensures.moved c.requires.few
    c.lowest.ensures.within

pub returns-clause-outside : goal.returns-clause-outside
returns-clause-outside c =
    moved_outside c.lowest.result c.up.result c.args.low c.args.n c.up.ensures.moved c.lowest.ensures.beyond
    c.up.ensures.below
