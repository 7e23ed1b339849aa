-- Each half has fewer seats.
use Rattle.std.proofs.Common.{length}
use Rattle.pd_gather.proofs.gathering.+fn-read_halves-join_mut+arg2+fn-read_halves-join_mut+arg3+read_halves.Given as goal

abbrev pub decreases-join_mut+arg2 : goal.decreases-join_mut+arg2
decreases-join_mut+arg2 g l = length l.first_readers.now

abbrev pub decreases-join_mut+arg3 : goal.decreases-join_mut+arg3
decreases-join_mut+arg3 g l = length l.last_readers.now

abbrev pub decreases-read_halves : goal.decreases-read_halves
decreases-read_halves g l = length l.readers.now
