-- The order goes on, and is of cuts that differ.
use Rattle.wide_conjunctions.proofs.CutsInOrder.{before_onward, not_before_itself}
use Rattle.wide_conjunctions.proofs.least_laws.cut_order.Goals as goal

pub returns-clause-onward : goal.returns-clause-onward
returns-clause-onward c = before_onward

pub returns-clause-apart : goal.returns-clause-apart
returns-clause-apart c = not_before_itself
