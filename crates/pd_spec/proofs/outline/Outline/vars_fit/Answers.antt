-- That `vars_fit` meets its contract.
use Rattle.pd_spec.proofs.OutlineViews.{vars_fit-processes}
use Rattle.pd_spec.proofs.outline.Outline.vars_fit.Goals as goal

pub returns : goal.returns
returns c = rw (vars_fit-processes c.args.self.now.processes.items) (cc)
