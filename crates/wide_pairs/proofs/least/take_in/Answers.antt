-- The last event is taken in.
use Rattle.wide_pairs.proofs.Taken.{some_taken}
use Rattle.wide_pairs.proofs.least.take_in.Goals as goal

pub returns-then-count-gt0 : goal.returns-then-count-gt0
returns-then-count-gt0 c =
    some_taken c.args.computation.now.events c.limits.ensures.acyclic c.args.p c.args.count c.args.counts.now
    c.include.new.counts c.requires.consistent c.requires.there c.if-count-gt0.true c.requires.within c.include.ensures
