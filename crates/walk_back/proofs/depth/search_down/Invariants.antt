-- What the loop of `search_down` keeps.
use Rattle.std.proofs.Common.{◌≡◌, ◌≤◌, length}
use Rattle.def_model.specs.Predicates.{test_of}
use Rattle.pd_pred.specs.Views.{predicate_view}
use Rattle.walk_back.specs.Searches.{AreDead, IsSearched}
use Rattle.walk_back.proofs.depth.search_down.Given as goal

abbrev pub invariant-loop : goal.invariant-loop
invariant-loop l = record {
  dead : AreDead l.computation.events (test_of l.computation (predicate_view l.pred)) l.dead;
  searched : IsSearched l.computation.events (test_of l.computation (predicate_view l.pred)) l.fn.path.items
      l.kept.number l.k l.top l.cut l.next l.steps.items;
  within : l.next ≤ length l.cut;
  same : l.path.items ≡ l.fn.path.items;
}
