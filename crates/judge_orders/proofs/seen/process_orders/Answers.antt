-- One more process.
use Rattle.std.proofs.Common.{◌+◌, List, ℕ, [], map, sym, ap, ◌∙◌, subst, arith}
use Rattle.std.specs.Prelude.{Vec, slice_index_or}
use Rattle.std.specs.Global.{Global}
use Rattle.def_orders.specs.Orders.{AreKept, IsSeenOf}
use Rattle.judge_orders.specs.Lists.{lists_view}
use Rattle.judge_orders.specs.OrderViews.{AllSeen, process_view}
use Rattle.judge_orders.specs.declared.order.ProcessOrder.{ProcessOrder}
use Rattle.judge_orders.proofs.Places.{all_push, list_at, longer}
use Rattle.judge_orders.proofs.seen.process_orders.Goals as goal

pub process_order-requires-clause-kept : goal.process_order-requires-clause-kept
process_order-requires-clause-kept c =
    let numbers = lists_view c.args.numbers.now in
    subst (λ (vars : List ℕ). AreKept c.args.computation.now c.loop-p.p vars (slice_index_or numbers c.loop-p.p []))
    (list_at c.args.named.now c.loop-p.p _ c.loop-p-test.true
    ∙ (ap (λ (list : Vec ℕ Global). list.items) (sym c.index-named-p.is) ∙ sym c.deref.ensures.value))
    (c.requires.kept c.loop-p.p (omega (arith, c.requires.all_named, c.loop-p-test.true)))

pub loop-p-preserved : goal.loop-p-preserved
loop-p-preserved c =
    let r = c.args.computation.now in
    let named = lists_view c.args.named.now in
    let numbers = lists_view c.args.numbers.now in
    record {
      many = longer c.loop-p.orders.items c.push.new.self.items c.in_ok-process_order.field-0 c.loop-p.p
          c.in_ok-push.ensures.items c.loop-p.invariant.many;
      seen = subst (λ (orders : List ProcessOrder).
          AllSeen r named numbers (map process_view orders) (c.loop-p.p + 1))
          (sym {A = List ProcessOrder} c.in_ok-push.ensures.items)
          (λ p of lt.
          all_push (λ q order. IsSeenOf r (slice_index_or named q []) numbers q order) process_view
          c.loop-p.orders.items c.in_ok-process_order.field-0 c.loop-p.p of c.loop-p.invariant.many
          (λ q less. c.loop-p.invariant.seen q of less)
          (subst (λ (vars : List ℕ). IsSeenOf r vars numbers c.loop-p.p
          (process_view c.in_ok-process_order.field-0))
          (c.deref.ensures.value ∙ (ap (λ (list : Vec ℕ Global). list.items) c.index-named-p.is
          ∙ sym (list_at c.args.named.now c.loop-p.p _ c.loop-p-test.true))) c.in_ok-process_order.ensures)
          p lt);
    }
