-- The examples stand in `Tried` and `TriedMade`.
use Rattle.def_long.proofs.Tried.{first_is_boundary, order_is_kept, relay_is_reduced, setting_is_seen}
use Rattle.def_long.proofs.TriedMade.{relay_is_made}
use Rattle.def_long.proofs.examples.Goals as goal

pub returns-clause-seen : goal.returns-clause-seen
returns-clause-seen c = setting_is_seen

pub returns-clause-order : goal.returns-clause-order
returns-clause-order c = order_is_kept

pub returns-clause-boundary : goal.returns-clause-boundary
returns-clause-boundary c = first_is_boundary

pub returns-clause-reduced : goal.returns-clause-reduced
returns-clause-reduced c = relay_is_reduced

pub returns-clause-made : goal.returns-clause-made
returns-clause-made c = relay_is_made
