-- The greatest sum of what the processes add.
use Rattle.std.proofs.Common.{List, ℤ, subst}
use Rattle.std.specs.Prelude.{Vec}
use Rattle.std.specs.Global.{Global}
use Rattle.pd_pred.specs.Trees.{sum_view}
use Rattle.wide_gates.specs.Greatest.{AreMost}
use Rattle.wide_gates.proofs.Surely.{most_excess}
use Rattle.wide_gates.proofs.sure.greatest_excess.Goals as goal

pub returns : goal.returns
returns c =
    most_excess c.args.computation.now c.args.spots.now (sum_view c.args.left.now) (sum_view c.args.right.now)
    c.in_ok-values.values.items c.in_ok-sums.sums.items c.in_ok-values.ensures.sum
    (subst
    (λ (rows : List (Vec ℤ Global)). AreMost c.args.computation.now.events c.args.spots.now rows
    c.in_ok-sums.sums.items) c.deref.ensures.value c.in_ok-sums.ensures)
