-- The last of the receipts so far.
use Rattle.std.specs.Prelude.{option_map, take}
use Rattle.judge_causes.specs.Own.{FindsLastBefore}
use Rattle.pd_clock.specs.Orders.{places_view}
use Rattle.pd_match.specs.Views.{place_view}
use Rattle.judge_causes.proofs.own.last_before.Given as goal

abbrev pub invariant-loop-receipt : goal.invariant-loop-receipt
invariant-loop-receipt l =
    FindsLastBefore (places_view (take l.receipt-index l.receipts)) (place_view l.send) (option_map place_view l.best)
