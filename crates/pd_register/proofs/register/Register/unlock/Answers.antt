-- The slot may go back.
use Rattle.std.proofs.Common.{arith}
use Rattle.pd_register.proofs.RuleSteps.{gives_back}
use Rattle.pd_register.proofs.register.Register.unlock.Goals as goal

pub store-requires : goal.store-requires
store-requires c =
    let seat = c.args.seat.now in
    let sized = c.args.self.now.sized in (
      c.requires.own,
      omega (arith, sized),
      gives_back c.args.self.now.table.shared.key _ seat.id seat.me (omega (arith, sized)) c.requires.held,
    )
