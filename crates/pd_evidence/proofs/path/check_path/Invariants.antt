-- What the loops of `check_path` keep.
use Rattle.std.proofs.Common.{◌↔◌, drop}
use Rattle.def_model.specs.Answers.{IsAvoidingObservation}
use Rattle.def_model.specs.Predicates.{test_of}
use Rattle.pd_pred.specs.Views.{predicate_view}
use Rattle.def_model.specs.Paths.{AvoidsFrom, IsAvoidingCut}
use Rattle.pd_evidence.proofs.path.check_path.Given as goal

abbrev pub invariant-loop-p : goal.invariant-loop-p
invariant-loop-p l = record {
  here : IsAvoidingCut l.computation.events (test_of l.computation (predicate_view l.pred)) l.counts.items;
  rest : IsAvoidingObservation l.computation.events (test_of l.computation (predicate_view l.pred)) l.path
      ↔ AvoidsFrom l.computation.events (test_of l.computation (predicate_view l.pred)) l.counts.items
      (drop l.p-index l.path);
}
