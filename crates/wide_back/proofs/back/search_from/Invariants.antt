-- What the loop of `search_from` keeps: each turn finds one more dead end.
use Rattle.std.proofs.Common.{◌≤◌, ◌-◌, length}
use Rattle.wide_back.specs.Goals.{predicate_of, recorded_of}
use Rattle.wide_back.specs.Searches.{AreDeadEnds, IsAt}
use Rattle.wide_back.proofs.back.search_from.Given as goal

abbrev pub invariant-loop-cut : goal.invariant-loop-cut
invariant-loop-cut l = record {
  ends : AreDeadEnds (recorded_of l.search) (predicate_of l.search) l.dead;
  at : IsAt (recorded_of l.search) (predicate_of l.search) l.dead l.undone.items l.cut l.from;
  few : length l.dead ≤ l.limit;
}

abbrev pub decreases-loop-cut : goal.decreases-loop-cut
decreases-loop-cut l = l.limit - length l.dead
