-- The candidates and those that are kept.
use Rattle.std.proofs.Common.{length, refl}
use Rattle.pd_clock.specs.Orders.{places_view}
use Rattle.judge_causes.proofs.SearchSteps.{causes_at_end, empty_if, long_enough}
use Rattle.judge_causes.proofs.search.causes_from.Goals as goal

pub returns : goal.returns
returns c r predicate searched =
    causes_at_end r predicate (places_view c.args.candidates.now) (places_view c.args.kept.now)
    (places_view c.in_ok-joined.field-0.items) (length c.args.candidates.now) c.args.are_needed
    c.is_empty.result c.both.result
    (long_enough c.args.candidates.now (length c.args.candidates.now) refl) c.in_ok-joined.ensures c.both.ensures
    (empty_if c.args.candidates.now c.is_empty.result c.is_empty.ensures) searched
