-- What the loop of `walk_for_possibly` keeps: one level is walked.
use Rattle.std.proofs.Common.{◌≡◌, ◌+◌, ◌≤◌, [], ◌∷◌, length, max}
use Rattle.pd_level.specs.Levels.{Levelled}
use Rattle.def_model.specs.Answers.{IsListOf}
use Rattle.def_model.specs.Cuts.{IsOfLevel}
use Rattle.def_model.specs.Predicates.{test_of}
use Rattle.def_model.specs.Walks.{IsNarrowBelow, NoneBelow}
use Rattle.pd_pred.specs.Views.{predicate_view}
use Rattle.walk_back.proofs.by_lists.walk_for_possibly.Given as goal

abbrev pub invariant-loop-k : goal.invariant-loop-k
invariant-loop-k g l = record {
  walked : Levelled;
  only : l.held.walked.items ≡ walked ∷ [];
  list : IsListOf (IsOfLevel l.computation.events l.k) walked.cuts;
  narrow : length walked.cuts ≤ l.width;
  below : IsNarrowBelow l.computation.events l.width l.k;
  none : NoneBelow l.computation.events (test_of l.computation (predicate_view l.pred)) l.k;
  levels : l.held.levels.items ≡ l.fn.held.levels.items;
  beside : l.held.beside ≡ l.fn.held.beside;
  no_fewer : l.fn.held.most ≤ l.held.most;
  most : l.held.most ≤ max l.fn.held.most (length l.fn.held.levels.items + l.fn.held.beside + 2);
}
