-- What holds of every computation that is looked up.
use Rattle.std.proofs.Common.{subst}
use Rattle.def_model.specs.Events.{Computation}
use Rattle.walk_runs.specs.Births.{IsWalkable}
use Rattle.walk_runs.proofs.NeedRows.{one_send}
use Rattle.walk_runs.proofs.steps.Steps.limits.Goals as goal

pub returns-clause-walkable : goal.returns-clause-walkable
returns-clause-walkable c =
    subst (λ (e : Computation). IsWalkable e) c.self.view_is record {
      no_cycle = c.limits.ensures.acyclic;
      one_send = one_send c.self.inside.computation.now.events c.self.inside.needs.items c.self.invariant.each;
    }
