-- The greatest cut in which the process hasn't come to the count.
use Rattle.wide_conjunctions.proofs.LevelAfter.{most_from}
use Rattle.wide_conjunctions.proofs.box_level.most_without.Goals as goal

pub returns : goal.returns
returns c =
    most_from c.args.computation.now.events c.args.process c.args.number c.requires.there c.requires.some
    c.unwrap.result (rw c.unwrap.ensures at c.in_ok-found.ensures.some)
