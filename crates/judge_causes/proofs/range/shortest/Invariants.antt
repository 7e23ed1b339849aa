-- What is known of the range.
use Rattle.std.specs.Prelude.{◌-◌}
use Rattle.judge_causes.specs.Asked.{asked_predicate, asked_run}
use Rattle.judge_causes.specs.Search.{IsRange}
use Rattle.pd_clock.specs.Orders.{places_view}
use Rattle.judge_causes.proofs.range.shortest.Given as goal

abbrev pub invariant-loop-range : goal.invariant-loop-range
invariant-loop-range g l =
    IsRange (asked_run l.asked) (asked_predicate l.asked) (places_view l.candidates) (places_view l.kept) l.range

abbrev pub decreases-loop-range : goal.decreases-loop-range
decreases-loop-range g l = l.range.high - l.range.low
