-- The path is that of an observation, which has the cut.
use Rattle.pd_evidence.proofs.LeastWays.{observed_through}
use Rattle.pd_evidence.proofs.observation.through.Goals as goal

pub returns-clause-observed : goal.returns-clause-observed
returns-clause-observed c =
    observed_through c.args.computation.now.events c.args.cut.now c.in_ok-path.path.items
    (c.consistent.ensures.0 c.if-not-consistent.false) c.in_ok-path.ensures
