-- One more term, or none is left.
use Rattle.std.proofs.Common.{List, length, sym, ap, subst, arith}
use Rattle.std.proofs.lemmas.List.{take_all}
use Rattle.def_orders.specs.Orders.{SumIsOver}
use Rattle.pd_pred.specs.Trees.{terms_view}
use Rattle.pd_pred.specs.declared.tree.SignedTerm.{SignedTerm}
use Rattle.judge_orders.specs.Lists.{lists_view}
use Rattle.judge_orders.proofs.Growing.{grows_on, sum_on, sum_parts}
use Rattle.judge_orders.proofs.named.name_sum.Goals as goal

pub loop-signed-preserved : goal.loop-signed-preserved
loop-signed-preserved c = record {
  grows = grows_on (lists_view c.args.named.now.items) (lists_view c.loop-signed.named.items)
      (lists_view c.name_term.new.named.items) c.loop-signed.invariant.grows c.in_ok-name_term.ensures.grows;
  over = sum_on (lists_view c.loop-signed.named.items) (lists_view c.name_term.new.named.items)
      c.deref-signed-items.result.now c.args.sum.now.terms.items c.loop-signed.signed-index _
      c.deref-signed-items.ensures.value c.loop-signed-test.true c.in_ok-name_term.ensures.grows
      c.loop-signed.invariant.over c.in_ok-name_term.ensures.over;
  just = λ lists grows over.
      let parts =
      sum_parts lists c.deref-signed-items.result.now c.args.sum.now.terms.items c.loop-signed.signed-index _
      c.deref-signed-items.ensures.value c.loop-signed-test.true over in
      c.in_ok-name_term.ensures.just lists (c.loop-signed.invariant.just lists grows parts.0) parts.1;
}

pub returns-clause-just : goal.returns-clause-just
returns-clause-just c = λ lists grows over.
    let long = ap (λ (terms : List SignedTerm). length terms) c.deref-signed-items.ensures.value in
    c.loop-signed.invariant.just lists grows
    (subst (λ (terms : List SignedTerm). SumIsOver lists (terms_view terms))
    (sym (take_all c.loop-signed.signed-index c.args.sum.now.terms.items
    (omega (arith, c.loop-signed-test.false, long)))) over)
