-- What there is and what is due of the processes that are left are what is due.
use Rattle.std.specs.Prelude.{◌≡◌, ◌++◌, drop}
use Rattle.judge_causes.specs.Receipts.{all_receipts}
use Rattle.pd_clock.specs.Orders.{places_view}
use Rattle.read_traces.specs.Views.{computation_view}
use Rattle.judge_causes.proofs.receipts.receipts_of.Given as goal

abbrev pub invariant-loop-p : goal.invariant-loop-p
invariant-loop-p l =
    places_view l.receipts.items ++ all_receipts l.p (computation_view (drop l.p l.traces))
    ≡ all_receipts 0 (computation_view l.traces)
