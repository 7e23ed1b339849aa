-- The rows that were looked at are those of all streams.
use Rattle.pd_register.proofs.SeatFacts.{rows_renamed}
use Rattle.pd_register.proofs.register.Register.watch.Goals as goal

pub returns-clause-shown : goal.returns-clause-shown
returns-clause-shown g c = rows_renamed c.look.result _ _ _ c.requires.own.1 c.look.ensures.shown
