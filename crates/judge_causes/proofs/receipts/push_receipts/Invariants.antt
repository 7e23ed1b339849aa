-- What there is and what is due of the events that are left are what is due.
use Rattle.std.specs.Prelude.{◌≡◌, ◌++◌, drop}
use Rattle.judge_causes.specs.Receipts.{receipts_from}
use Rattle.pd_clock.specs.Orders.{places_view}
use Rattle.judge_causes.proofs.receipts.push_receipts.Given as goal

abbrev pub invariant-loop-k : goal.invariant-loop-k
invariant-loop-k l =
    places_view l.receipts.items ++ receipts_from l.process l.k (drop l.k l.events)
    ≡ places_view l.fn.receipts.items ++ receipts_from l.process 0 l.events
