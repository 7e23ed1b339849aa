-- By the excess that the comparison asks for.
use Rattle.std.proofs.Common.{List, ℤ, subst}
use Rattle.pd_pred.specs.Trees.{comparison_view, sum_view}
use Rattle.wide_gates.specs.Sure.{AreExcluded}
use Rattle.wide_gates.proofs.Surely.{excluded_above, excluded_below, excluded_both}
use Rattle.wide_gates.proofs.sure.where_excluded_as.Goals as goal

pub returns-then-is_of_below : goal.returns-then-is_of_below
returns-then-is_of_below c =
    excluded_below c.args.computation.now c.args.spots.now (sum_view c.args.left.now) (sum_view c.args.right.now)
    (comparison_view c.args.comparison) c.in_ok-where_excluded.field-0.items
    c.in_ok-below.below.items c.in_ok-below.ensures
    (subst
    (λ (t : List ℤ × List ℤ). AreExcluded (comparison_view c.args.comparison) t.0 t.1
    c.in_ok-where_excluded.field-0.items)
    (λ i. (c.deref.ensures.value i, c.deref-then-is_of_below.ensures.value i))
    c.in_ok-where_excluded.ensures)
    (c.is_of_below.ensures c.if-is_of_below.true)

pub returns-then-is_of_above : goal.returns-then-is_of_above
returns-then-is_of_above c =
    excluded_above c.args.computation.now c.args.spots.now (sum_view c.args.left.now) (sum_view c.args.right.now)
    (comparison_view c.args.comparison) c.in_ok-where_excluded-2.field-0.items
    c.in_ok-above.above.items c.in_ok-above.ensures
    (subst
    (λ (t : List ℤ × List ℤ). AreExcluded (comparison_view c.args.comparison) t.0 t.1
    c.in_ok-where_excluded-2.field-0.items)
    (λ i. (c.deref-then-is_of_above.ensures.value i, c.deref-then-is_of_above-2.ensures.value i))
    c.in_ok-where_excluded-2.ensures)
    (c.is_of_above.ensures c.if-is_of_above.true)

pub returns : goal.returns
returns c =
    excluded_both c.args.computation.now c.args.spots.now (sum_view c.args.left.now) (sum_view c.args.right.now)
    (comparison_view c.args.comparison) c.in_ok-where_excluded-3.field-0.items
    c.in_ok-above.above.items c.in_ok-below-2.below.items
    c.in_ok-above.ensures c.in_ok-below-2.ensures
    (subst
    (λ (t : List ℤ × List ℤ). AreExcluded (comparison_view c.args.comparison) t.0 t.1
    c.in_ok-where_excluded-3.field-0.items)
    (λ i. (c.deref-2.ensures.value i, c.deref-3.ensures.value i))
    c.in_ok-where_excluded-3.ensures)
