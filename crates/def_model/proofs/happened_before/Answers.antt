-- Happened before holds of each step, goes on from one place to another, and is the least relation that does both.
use Rattle.std.specs.Prelude.{IsTrue}
use Rattle.def_model.proofs.Chains.{step_happens, happens_transitive, happens_least}
use Rattle.def_model.proofs.happened_before.Goals as goal

pub returns-clause-step : goal.returns-clause-step
returns-clause-step c = step_happens

pub returns-clause-onward : goal.returns-clause-onward
returns-clause-onward c = happens_transitive

pub returns-clause-least : goal.returns-clause-least
returns-clause-least c = λ d test. happens_least d (λ e f. IsTrue (test e f))
