-- What the loop of `way_back` keeps.
use Rattle.std.proofs.Common.{◌≡◌, ◌+◌, ◌≤◌, length, max, sum}
use Rattle.walk_back.specs.Counts.{others}
use Rattle.walk_back.specs.Ways.{AreKept, IsReached}
use Rattle.def_model.specs.Predicates.{test_of}
use Rattle.pd_pred.specs.Views.{predicate_view}
use Rattle.walk_back.proofs.back.way_back.Given as goal

abbrev pub invariant-loop-alloc : goal.invariant-loop-alloc
invariant-loop-alloc g l = record {
  number : sum l.cut ≡ l.k;
  kept : AreKept l.computation.events (test_of l.computation (predicate_view l.pred)) l._split l._gap l.k
      l.held.levels.items;
  reached : IsReached l.computation.events (test_of l.computation (predicate_view l.pred)) l.path.items l.cut;
  fewer : length l.held.levels.items ≤ length l.fn.held.levels.items;
  no_fewer : l.fn.held.most ≤ l.held.most;
  same_others : others l.held ≡ others l.fn.held;
  most : l.held.most ≤ max l.fn.held.most (length l.fn.held.levels.items + l._gap + others l.fn.held);
}

abbrev pub decreases-loop-alloc : goal.decreases-loop-alloc
decreases-loop-alloc g l = length l.held.levels.items
