-- What the loop of `compile_all` keeps: the predicates so far are compiled.
use Rattle.std.proofs.Common.{◌≡◌, ◌<◌, ℕ, Bor, get_or, length}
use Rattle.pd_pred.specs.Views.{predicate_view}
use Rattle.pd_pred.specs.declared.predicate.Pred.{Pred}
use Rattle.walk_tables.specs.Views.{CompiledView}
use Rattle.walk.proofs.walk.compile_all.Given as goal

abbrev pub invariant-loop-i : goal.invariant-loop-i
invariant-loop-i l = record {
  one_each : length l.tests.items ≡ l.i;
  same : (j : ℕ) (test : CompiledView) → j < l.i → (get_or l.tests.items j test).recorded ≡ l.computation;
  each : (j : ℕ) (pred : Bor Pred) (test : CompiledView) → j < l.i → get_or l.tests.items j test
      ≡ record { recorded = l.computation; predicate = predicate_view (get_or l.preds j pred).now };
}
