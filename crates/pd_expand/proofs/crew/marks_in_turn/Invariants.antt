-- What the loops of `marks_in_turn` keep.
use Rattle.std.proofs.Common.{◌≡◌, map, take}
use Rattle.def_model.specs.Predicates.{test_of}
use Rattle.pd_pred.specs.Views.{predicate_view}
use Rattle.pd_expand.proofs.crew.marks_in_turn.Given as goal

abbrev pub invariant-loop-i : goal.invariant-loop-i
invariant-loop-i l = l.marks.items ≡ map (test_of l.computation (predicate_view l.pred)) (take l.i l.level.cuts)
