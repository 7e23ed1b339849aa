-- The seat stays one of the claims'.
use Rattle.pd_expand.specs.Claims.{IsSeatOf}
use Rattle.test_threads.proofs.claims.draw_all.Given as goal

abbrev pub invariant-loop : goal.invariant-loop
invariant-loop g l =
    (goal.iterator-loop g).can_next l.iterator' × (goal.iterator-loop g).is_finite l.iterator' × IsSeatOf l.claims l.me
