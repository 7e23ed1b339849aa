-- What the loops of `drop_negations` keep.
use Rattle.std.proofs.Common.{◌≡◌, length}
use Rattle.def_format.specs.OpenerStack.{drop_nots}
use Rattle.pd_pred.specs.Openers.{openers_view}
use Rattle.pd_pred.proofs.openers.Openers.drop_negations.Given as goal

abbrev pub invariant-loop-self : goal.invariant-loop-self
invariant-loop-self l = drop_nots (openers_view l.self) ≡ drop_nots (openers_view l.initial.self)

abbrev pub decreases-loop-self : goal.decreases-loop-self
decreases-loop-self l = length l.self.stack.items
