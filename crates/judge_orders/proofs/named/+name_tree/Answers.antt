-- The variables of both parts are there.
use Rattle.std.proofs.Common.{◌≡◌, refl, sym, subst}
use Rattle.def_model.specs.Predicates.{And, Or}
use Rattle.def_orders.specs.Orders.{IsOver}
use Rattle.judge_orders.specs.Lists.{lists_view}
use Rattle.pd_pred.specs.Trees.{sum_view, tree_view}
use Rattle.pd_pred.specs.declared.tree.Tree.{Tree}
use Rattle.judge_orders.proofs.Growing.{over_stays, sum_stays}
use Rattle.judge_orders.proofs.named.+name_tree.Goals as goal

pub returns-in_ok-name_sum-in-Compare-2-clause-over : goal.returns-in_ok-name_sum-in-Compare-2-clause-over
returns-in_ok-name_sum-in-Compare-2-clause-over t c =
    subst (λ (tree : Tree). IsOver (lists_view c.name_sum-in-Compare.new.named.items) (tree_view tree))
    (sym c.in-Compare.is) (
      sum_stays (lists_view c.name_sum.new.named.items) (lists_view c.name_sum-in-Compare.new.named.items)
          (sum_view c.in-Compare.left) c.in_ok-name_sum-in-Compare-2.ensures.grows
          c.in_ok-name_sum-in-Compare.ensures.over,
      c.in_ok-name_sum-in-Compare-2.ensures.over,
    )

pub returns-in_ok-name_tree-in-And-2-clause-over : goal.returns-in_ok-name_tree-in-And-2-clause-over
returns-in_ok-name_tree-in-And-2-clause-over t c =
    let same : And (tree_view c.deref-in-And.result.now) (tree_view c.deref-in-And-2.result.now)
    ≡ tree_view c.args.tree.now =
    rw (c.deref-in-And.ensures, c.deref-in-And-2.ensures, c.in-And.is) refl in
    subst (IsOver (lists_view c.name_tree-in-And-2.new.named.items)) same (
      over_stays (lists_view c.name_tree-in-And.new.named.items) (lists_view c.name_tree-in-And-2.new.named.items)
          (tree_view c.deref-in-And.result.now) c.in_ok-name_tree-in-And-2.ensures.grows
          c.in_ok-name_tree-in-And.ensures.over,
      c.in_ok-name_tree-in-And-2.ensures.over,
    )

pub returns-in_ok-name_tree-in-Or-2-clause-over : goal.returns-in_ok-name_tree-in-Or-2-clause-over
returns-in_ok-name_tree-in-Or-2-clause-over t c =
    let same : Or (tree_view c.deref-in-Or.result.now) (tree_view c.deref-in-Or-2.result.now)
    ≡ tree_view c.args.tree.now =
    rw (c.deref-in-Or.ensures, c.deref-in-Or-2.ensures, c.in-Or.is) refl in
    subst (IsOver (lists_view c.name_tree-in-Or-2.new.named.items)) same (
      over_stays (lists_view c.name_tree-in-Or.new.named.items) (lists_view c.name_tree-in-Or-2.new.named.items)
          (tree_view c.deref-in-Or.result.now) c.in_ok-name_tree-in-Or-2.ensures.grows
          c.in_ok-name_tree-in-Or.ensures.over,
      c.in_ok-name_tree-in-Or-2.ensures.over,
    )
