-- The least and the greatest are the ends at the spot.
use Rattle.pd_pred.specs.Views.{predicate_view}
use Rattle.wide_gates.proofs.TriedCuts.{ends_seen}
use Rattle.wide_gates.proofs.tried.look_at.Goals as goal

pub returns : goal.returns
returns c =
    ends_seen c.args.computation.now (predicate_view c.args.pred.now) c.limits.ensures.acyclic c.args.spot
    c.requires.event c.in_ok-least.least c.in_ok-greatest.greatest c.in_ok-least.ensures c.in_ok-greatest.ensures
    c.args.best c.better-found.result c.better-found-2.result c.better-found.ensures c.better-found-2.ensures
