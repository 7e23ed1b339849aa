-- One more predicate, or none is left.
use Rattle.std.proofs.Common.{List, All, map, sym, ap, ◌∙◌, subst, arith}
use Rattle.std.proofs.lemmas.List.{take_all}
use Rattle.def_format.specs.Documents.{NamedPredicate}
use Rattle.def_orders.specs.Orders.{IsOver}
use Rattle.judge_orders.specs.Lists.{lists_view}
use Rattle.pd_pred.specs.Trees.{tree_view}
use Rattle.pd_pred.specs.Views.{predicate_view}
use Rattle.pd_spec.specs.Named.{named_view}
use Rattle.pd_spec.specs.declared.named.NamedPred.{NamedPred}
use Rattle.judge_orders.proofs.Growing.{all_over, over_parts}
use Rattle.judge_orders.proofs.Places.{lists_length}
use Rattle.judge_orders.proofs.named.named_vars.Goals as goal

pub loop-predicate-preserved : goal.loop-predicate-preserved
loop-predicate-preserved c = record {
  many = omega (
    arith,
    lists_length c.loop-predicate.named.items,
    lists_length c.name_tree.new.named.items,
    c.in_ok-name_tree.ensures.grows.same,
    c.loop-predicate.invariant.many,
  );
  over = all_over (lists_view c.loop-predicate.named.items) (lists_view c.name_tree.new.named.items)
      c.args.predicates.now c.loop-predicate.predicate-index _ (tree_view c.tree.result.now)
      c.loop-predicate-test.true c.in_ok-name_tree.ensures.grows c.loop-predicate.invariant.over
      (c.tree.ensures ∙ ap (λ (predicate : NamedPred). predicate_view predicate.pred) c.predicate-item.is)
      c.in_ok-name_tree.ensures.over;
  just = λ lists many over.
      let parts =
      over_parts lists c.args.predicates.now c.loop-predicate.predicate-index _ (tree_view c.tree.result.now)
      c.loop-predicate-test.true
      (c.tree.ensures ∙ ap (λ (predicate : NamedPred). predicate_view predicate.pred) c.predicate-item.is) over in
      c.in_ok-name_tree.ensures.just lists (c.loop-predicate.invariant.just lists many parts.0) parts.1;
}

pub returns-clause-over : goal.returns-clause-over
returns-clause-over c =
    subst (λ (predicates : List NamedPred). All (λ (asked : NamedPredicate).
    IsOver (lists_view c.loop-predicate.named.items) asked.predicate) (map named_view predicates))
    (take_all c.loop-predicate.predicate-index c.args.predicates.now (omega (arith, c.loop-predicate-test.false)))
    c.loop-predicate.invariant.over

pub returns-clause-just : goal.returns-clause-just
returns-clause-just c = λ lists many over.
    c.loop-predicate.invariant.just lists many
    (subst (λ (predicates : List NamedPred). All (λ (asked : NamedPredicate).
    IsOver lists asked.predicate) (map named_view predicates))
    (sym (take_all c.loop-predicate.predicate-index c.args.predicates.now
    (omega (arith, c.loop-predicate-test.false)))) over)
