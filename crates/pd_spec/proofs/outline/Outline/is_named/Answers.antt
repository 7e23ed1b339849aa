-- That `is_named` meets its contract.
use Rattle.std.proofs.Common.{arith}
use Rattle.pd_spec.proofs.OutlineViews.{has_names-parts}
use Rattle.pd_spec.proofs.outline.Outline.is_named.Goals as goal

pub returns-then-vars_are_named : goal.returns-then-vars_are_named
returns-then-vars_are_named c = rw (has_names-parts c.args.self.now) (grind arith)

pub returns-else-vars_are_named : goal.returns-else-vars_are_named
returns-else-vars_are_named c = rw (has_names-parts c.args.self.now) (grind arith)
