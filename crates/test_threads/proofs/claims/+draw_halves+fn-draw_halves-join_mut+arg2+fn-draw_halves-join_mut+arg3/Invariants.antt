-- Each half has fewer seats.
use Rattle.std.proofs.Common.{length}
use Rattle.test_threads.proofs.claims.+draw_halves+fn-draw_halves-join_mut+arg2+fn-draw_halves-join_mut+arg3.Given as goal

abbrev pub decreases-draw_halves : goal.decreases-draw_halves
decreases-draw_halves g l = length l.seats.now

abbrev pub decreases-join_mut+arg2 : goal.decreases-join_mut+arg2
decreases-join_mut+arg2 g l = length l.first.now

abbrev pub decreases-join_mut+arg3 : goal.decreases-join_mut+arg3
decreases-join_mut+arg3 g l = length l.last.now
