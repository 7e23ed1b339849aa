-- The pairs of one receipt more, and of all.
use Rattle.std.proofs.Common.{List, sym, subst, take}
use Rattle.std.proofs.lemmas.List.{take_all}
use Rattle.def_model.specs.Events.{Place}
use Rattle.pd_clock.specs.Orders.{places_view}
use Rattle.pd_match.specs.Views.{pairs_view}
use Rattle.pd_match.specs.declared.place.Place as kept
use Rattle.judge_causes.specs.Own.{AreOwnOrders}
use Rattle.judge_causes.proofs.SearchSteps.{view_more}
use Rattle.judge_causes.proofs.own.own_orders.Goals as goal

pub loop-receipt-preserved : goal.loop-receipt-preserved
loop-receipt-preserved c =
    subst (λ (l : List Place). AreOwnOrders c.args.computation.now.events l (places_view c.args.receipts.now)
    (pairs_view c.push_own_order.new.pairs.items))
    (sym (view_more c.args.receipts.now c.loop-receipt.receipt-index _ c.loop-receipt-test.true))
    (c.in_ok-push_own_order.ensures (places_view (take c.loop-receipt.receipt-index c.args.receipts.now))
    c.loop-receipt.invariant)

pub returns : goal.returns
returns c =
    subst (λ (l : List kept.Place). AreOwnOrders c.args.computation.now.events (places_view l)
    (places_view c.args.receipts.now) (pairs_view c.loop-receipt.pairs.items))
    (take_all c.loop-receipt.receipt-index c.args.receipts.now c.loop-receipt-test.false) c.loop-receipt.invariant
