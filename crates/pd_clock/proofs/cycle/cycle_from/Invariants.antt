-- What the loops of `cycle_from` keep.
use Rattle.std.proofs.Common.{◌-◌, length}
use Rattle.read_traces.specs.Views.{computation_view}
use Rattle.pd_match.specs.Views.{place_view}
use Rattle.pd_clock.specs.Orders.{places_view}
use Rattle.def_model.proofs.StuckWay.{IsWay}
use Rattle.pd_clock.proofs.cycle.cycle_from.Given as goal

abbrev pub invariant-loop-start : goal.invariant-loop-start
invariant-loop-start l =
    IsWay (computation_view l.traces) (place_view l.fn.first) (places_view l.taken.items) (place_view l.here)

abbrev pub decreases-loop-start : goal.decreases-loop-start
decreases-loop-start l = length l.traces - length l.taken.items
