-- What the loops of `sum_value` keep.
use Rattle.std.proofs.Common.{◌≡◌, ◌≤◌, ◌*◌, ◌^◌, ◌+ℤ◌, drop}
use Rattle.std.specs.Int.RustNames.{unsigned_abs}
use Rattle.def_model.specs.Predicates as model
use Rattle.pd_pred.specs.Trees.{terms_view, sum_view}
use Rattle.pd_pred.proofs.evaluate.sum_value.Given as goal

abbrev pub invariant-loop-term : goal.invariant-loop-term
invariant-loop-term g l =
    (l.total +ℤ model.sum_value (g.V.Values.state l.values) (terms_view (drop l.term-index l.term-items))
    ≡ model.sum_value (g.V.Values.state l.values) (sum_view l.sum)) × (unsigned_abs l.total ≤ l.term-index * 2 ^ 95)
