-- A try at the lock keeps its rule, and one that found 0 took the slot.
use Rattle.std.proofs.Common.{◌<◌, sym, subst, ◌∙◌, length, arith}
use Rattle.pd_register.specs.LockRule.{Takes}
use Rattle.pd_register.proofs.RuleSteps.{tries}
use Rattle.pd_register.proofs.register.Register.lock.Goals as goal

pub compare_exchange-found-requires : goal.compare_exchange-found-requires
compare_exchange-found-requires g c =
    let seat = c.loop.seat in
    let inv = c.loop.invariant in
    let some_rows = subst (λ m. 0 < length m.0.rows) (sym inv.4) c.requires.idle.0 in (
      inv.2 ∙ c.requires.own,
      omega (arith, c.args.self.now.sized),
      tries c.args.self.now.table.shared.key _ seat.id seat.me some_rows,
    )

pub returns-then-found-eq0-clause-taken : goal.returns-then-found-eq0-clause-taken
returns-then-found-eq0-clause-taken g c =
    let taken = c.compare_exchange-found.ensures.2.0 c.if-found-eq0.true in
    subst (λ m. Takes m c.compare_exchange-found.new.seat.me) c.loop.invariant.4 taken
