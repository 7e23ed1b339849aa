-- The law stands in `SingleOrder`.
use Rattle.def_orders.proofs.SingleOrder.{order_is_single}
use Rattle.def_orders.proofs.order_is_single.Goals as goal

pub returns : goal.returns
returns c = order_is_single
