-- What holds of every computation.
use Rattle.std.proofs.Common.{subst}
use Rattle.def_model.specs.Order.{HasNoCycle}
use Rattle.def_model.specs.Predicates.{Recorded}
use Rattle.pd_clock.proofs.computation.Computation.limits.Goals as goal

pub returns-clause-acyclic : goal.returns-clause-acyclic
returns-clause-acyclic c = subst (λ (r : Recorded). HasNoCycle r.events) c.self.view_is c.self.invariant.2
