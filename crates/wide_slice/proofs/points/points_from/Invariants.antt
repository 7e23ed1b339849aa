-- What the loop of `points_from` keeps.
use Rattle.std.proofs.Common.{◌+◌, ◌-◌, get_or}
use Rattle.wide_slice.proofs.Rows.{IsRowUpTo}
use Rattle.wide_slice.proofs.points.points_from.Given as goal

abbrev pub invariant-loop-from : goal.invariant-loop-from
invariant-loop-from g l =
    IsRowUpTo l.computation.events (g.G.GoodCounts.good l.wanted) l.process (get_or l.initial.counts l.process 0)
    l.points.items l.from l.counts

abbrev pub decreases-loop-from : goal.decreases-loop-from
decreases-loop-from g l = l.last + 1 - l.from
