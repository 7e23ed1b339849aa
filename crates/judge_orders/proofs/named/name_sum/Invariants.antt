-- The variables of the terms so far are there.
use Rattle.std.proofs.Common.{List, ℕ, take}
use Rattle.def_orders.specs.Orders.{SumIsOver}
use Rattle.judge_orders.specs.Growth.{AddsNoOther, Grows}
use Rattle.judge_orders.specs.Lists.{lists_view}
use Rattle.pd_pred.specs.Trees.{terms_view}
use Rattle.judge_orders.proofs.named.name_sum.Given as goal

abbrev pub invariant-loop-signed : goal.invariant-loop-signed
invariant-loop-signed l = record {
  grows : Grows (lists_view l.fn.named.items) (lists_view l.named.items);
  over : SumIsOver (lists_view l.named.items) (terms_view (take l.signed-index l.sum.terms.items));
  just : AddsNoOther (lists_view l.fn.named.items) (lists_view l.named.items)
      (λ (lists : List (List ℕ)). SumIsOver lists (terms_view (take l.signed-index l.sum.terms.items)));
}
