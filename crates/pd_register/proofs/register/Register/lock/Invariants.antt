-- The seat is as it was.
use Rattle.std.proofs.Common.{◌≡◌}
use Rattle.pd_register.proofs.register.Register.lock.Given as goal

abbrev pub invariant-loop : goal.invariant-loop
invariant-loop g l =
    (goal.iterator-loop g).can_next l.iterator'
    × (goal.iterator-loop g).is_finite l.iterator'
    × (l.seat.table_id ≡ l.initial.seat.table_id)
    × (l.seat.id ≡ l.initial.seat.id)
    × (l.seat.me ≡ l.initial.seat.me)
