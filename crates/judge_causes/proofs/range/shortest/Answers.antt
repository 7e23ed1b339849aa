-- A trial narrows the range.
use Rattle.pd_clock.specs.Orders.{places_view}
use Rattle.judge_causes.specs.Asked.{asked_predicate, asked_run}
use Rattle.judge_causes.proofs.range.shortest.Goals as goal

pub loop-range-preserved : goal.loop-range-preserved
loop-range-preserved g c =
    c.range_after-range.ensures.range (asked_run c.args.asked.now) (asked_predicate c.args.asked.now)
    (places_view c.args.candidates.now) (places_view c.args.kept.now) c.loop-range.invariant c.in_ok-trial.ensures

pub returns : goal.returns
returns g c =
    c.short_of.ensures (asked_run c.args.asked.now) (asked_predicate c.args.asked.now)
    (places_view c.args.candidates.now) (places_view c.args.kept.now) c.loop-range.invariant
