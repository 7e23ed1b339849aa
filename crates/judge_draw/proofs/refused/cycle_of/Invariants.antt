-- The places of the names so far.
use Rattle.std.proofs.Common.{◌≡◌, map, take}
use Rattle.pd_clock.specs.Orders.{places_view}
use Rattle.def_format.specs.RefusalWords.{named_place}
use Rattle.pd_report.specs.Views.{named_places_view}
use Rattle.judge_draw.proofs.refused.cycle_of.Given as goal

abbrev pub invariant-loop-name : goal.invariant-loop-name
invariant-loop-name l =
    map (named_place l.names) (places_view l.cycle.items) ≡ named_places_view (take l.name-index l.places)
