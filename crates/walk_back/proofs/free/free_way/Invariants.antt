-- What the loop of `free_way` keeps.
use Rattle.std.proofs.Common.{◌≡◌, sum}
use Rattle.walk_back.specs.Ways.{AreFree, IsReached}
use Rattle.def_model.specs.Walks.{NoneBelow}
use Rattle.def_model.specs.Predicates.{test_of}
use Rattle.pd_pred.specs.Views.{predicate_view}
use Rattle.walk_back.proofs.free.free_way.Given as goal

abbrev pub invariant-loop-events : goal.invariant-loop-events
invariant-loop-events l = record {
  number : sum l.cut ≡ l.events;
  none_below : NoneBelow l.computation.events (test_of l.computation (predicate_view l._pred)) l.events;
  reached : IsReached l.computation.events (test_of l.computation (predicate_view l._pred)) l.path.items l.cut;
  free : AreFree l.computation.events l.cut l.free;
}

abbrev pub decreases-loop-events : goal.decreases-loop-events
decreases-loop-events l = l.events
