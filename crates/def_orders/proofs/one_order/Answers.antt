-- The laws stand in `EqualOrders`.
use Rattle.def_orders.proofs.EqualOrders.{definitely_of_order, possibly_of_order}
use Rattle.def_orders.proofs.one_order.Goals as goal

pub returns-clause-possibly : goal.returns-clause-possibly
returns-clause-possibly c = possibly_of_order

pub returns-clause-definitely : goal.returns-clause-definitely
returns-clause-definitely c = definitely_of_order
