-- What the loop of `climb` keeps.
use Rattle.std.proofs.Common.{length}
use Rattle.def_model.specs.Cuts.{full_cut}
use Rattle.wide_back.specs.Goals.{predicate_of, recorded_of}
use Rattle.wide_back.specs.Searches.{IsWayTo}
use Rattle.wide_back.proofs.climb.climb.Given as goal

abbrev pub invariant-loop-undone : goal.invariant-loop-undone
invariant-loop-undone l =
    IsWayTo (recorded_of l.search) (predicate_of l.search) l.dead (full_cut (recorded_of l.search).events)
    l.undone.items l.cut l.from

abbrev pub decreases-loop-undone : goal.decreases-loop-undone
decreases-loop-undone l = length l.undone.items
