-- What is taken into the empty cut, one process after the other.
use Rattle.wide_pairs.proofs.Taken.{least_with_both, none_consistent}
use Rattle.wide_pairs.proofs.least.take_in_both.Goals as goal

pub take_in-requires-clause-consistent : goal.take_in-requires-clause-consistent
take_in-requires-clause-consistent c =
    none_consistent c.args.computation.now.events c.args.counts.now c.requires.empty

pub returns-clause-both : goal.returns-clause-both
returns-clause-both c =
    least_with_both c.args.computation.now.events c.args.p c.args.q c.args.i c.args.j c.args.counts.now
    c.take_in.new.counts c.take_in-2.new.counts c.requires.empty c.take_in.ensures c.take_in-2.ensures
