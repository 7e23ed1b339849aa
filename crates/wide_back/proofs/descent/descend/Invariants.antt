-- What the loop of `descend` keeps.
use Rattle.std.proofs.Common.{sum}
use Rattle.wide_back.specs.Goals.{predicate_of, recorded_of}
use Rattle.wide_back.specs.Searches.{IsAt}
use Rattle.wide_back.proofs.descent.descend.Given as goal

abbrev pub invariant-loop-p : goal.invariant-loop-p
invariant-loop-p l =
    IsAt (recorded_of l.search) (predicate_of l.search) l.dead l.undone.items l.cut l.from

abbrev pub decreases-loop-p : goal.decreases-loop-p
decreases-loop-p l = sum l.cut
