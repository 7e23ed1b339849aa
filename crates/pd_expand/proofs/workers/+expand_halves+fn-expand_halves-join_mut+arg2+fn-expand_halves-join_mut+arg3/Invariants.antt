-- Each half has fewer seats.
use Rattle.std.proofs.Common.{length}
use Rattle.pd_expand.proofs.workers.+expand_halves+fn-expand_halves-join_mut+arg2+fn-expand_halves-join_mut+arg3.Given as goal

abbrev pub decreases-expand_halves : goal.decreases-expand_halves
decreases-expand_halves g l = length l.seats.now

abbrev pub decreases-join_mut+arg2 : goal.decreases-join_mut+arg2
decreases-join_mut+arg2 g l = length l.first_seats.now

abbrev pub decreases-join_mut+arg3 : goal.decreases-join_mut+arg3
decreases-join_mut+arg3 g l = length l.last_seats.now
