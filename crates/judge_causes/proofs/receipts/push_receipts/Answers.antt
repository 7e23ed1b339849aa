-- One event more is looked at.
use Rattle.std.proofs.Common.{◌<◌, length, ◌∙◌, arith}
use Rattle.pd_clock.specs.Orders.{places_view}
use Rattle.read_traces.specs.Columns.{seen_kind_view}
use Rattle.judge_causes.proofs.ReducedSteps.{receipts_next}
use Rattle.judge_causes.proofs.receipts.push_receipts.Goals as goal

pub loop-k-preserved : goal.loop-k-preserved
loop-k-preserved c =
    let within : c.loop-k.k < length c.args.events.now = omega (arith, c.loop-k-test.true, c.len-k-end.ensures) in
    receipts_next c.args.process c.loop-k.k c.args.events.now (places_view c.loop-k.receipts.items)
    (places_view c.push_receipt.new.receipts.items) (seen_kind_view c.kind-kind.result) within
    c.kind-kind.ensures.kind c.in_ok-push_receipt.ensures
    ∙ c.loop-k.invariant
