-- The laws stand in `EqualParts`.
use Rattle.def_orders.proofs.EqualParts.{definitely_of_part, possibly_of_part}
use Rattle.def_orders.proofs.one_part.Goals as goal

pub returns-clause-possibly : goal.returns-clause-possibly
returns-clause-possibly c = possibly_of_part

pub returns-clause-definitely : goal.returns-clause-definitely
returns-clause-definitely c = definitely_of_part
