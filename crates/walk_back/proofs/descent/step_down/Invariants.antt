-- What the loop of `step_down` keeps.
use Rattle.std.proofs.Common.{◌≡◌, ◌+◌, ◌≤◌, length, sum, take}
use Rattle.walk_back.specs.Counts.{others}
use Rattle.walk_back.specs.Ways.{AreAvoidingLevels, AreInTurn, IsReached, last_number}
use Rattle.def_model.specs.Predicates.{test_of}
use Rattle.pd_pred.specs.Views.{predicate_view}
use Rattle.walk_back.proofs.descent.step_down.Given as goal

abbrev pub invariant-loop-held : goal.invariant-loop-held
invariant-loop-held l = record {
  within : l.kept ≤ length l.held.levels.items;
  same : take l.kept l.held.levels.items ≡ take l.kept l.fn.held.levels.items;
  lists : AreAvoidingLevels l.computation.events (test_of l.computation (predicate_view l.pred)) l.held.levels.items;
  in_turn : AreInTurn l.kept (last_number (take l.kept l.fn.held.levels.items)) l.held.levels.items;
  next : sum l.cut ≡ last_number l.held.levels.items + 1;
  reached : IsReached l.computation.events (test_of l.computation (predicate_view l.pred)) l.path.items l.cut;
  same_others : others l.held ≡ others l.fn.held;
  most : l.held.most ≡ l.fn.held.most;
}

abbrev pub decreases-loop-held : goal.decreases-loop-held
decreases-loop-held l = length l.held.levels.items
