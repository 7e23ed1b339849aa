-- The examples stand in `Tried` and `TriedParts`.
use Rattle.def_orders.proofs.Tried.{others_are_not_seen}
use Rattle.def_orders.proofs.TriedParts.{middle_is_not_seen}
use Rattle.def_orders.proofs.examples.Goals as goal

pub returns-clause-others : goal.returns-clause-others
returns-clause-others c = others_are_not_seen

pub returns-clause-middle : goal.returns-clause-middle
returns-clause-middle c = middle_is_not_seen
