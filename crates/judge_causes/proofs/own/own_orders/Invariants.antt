-- The pairs of the receipts so far.
use Rattle.std.specs.Prelude.{take}
use Rattle.judge_causes.specs.Own.{AreOwnOrders}
use Rattle.pd_clock.specs.Orders.{places_view}
use Rattle.pd_match.specs.Views.{pairs_view}
use Rattle.judge_causes.proofs.own.own_orders.Given as goal

abbrev pub invariant-loop-receipt : goal.invariant-loop-receipt
invariant-loop-receipt l =
    AreOwnOrders l.computation.events (places_view (take l.receipt-index l.receipts)) (places_view l.receipts)
    (pairs_view l.pairs.items)
