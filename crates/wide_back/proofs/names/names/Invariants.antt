-- What the loop of `names` keeps.
use Rattle.pd_pred.specs.Views.{predicate_view}
use Rattle.wide_back.specs.Names.{AreNames}
use Rattle.wide_back.proofs.names.names.Given as goal

abbrev pub invariant-loop-p : goal.invariant-loop-p
invariant-loop-p l = AreNames (predicate_view l.pred) l.p l.names.items
