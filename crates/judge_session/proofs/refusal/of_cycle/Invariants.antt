-- The places so far have their names.
use Rattle.std.proofs.Common.{◌≡◌, map, take}
use Rattle.pd_report.specs.Views.{named_places_view}
use Rattle.def_format.specs.RefusalWords.{named_place}
use Rattle.pd_match.specs.Views.{place_view}
use Rattle.judge_session.proofs.refusal.of_cycle.Given as goal

abbrev pub invariant-loop-place : goal.invariant-loop-place
invariant-loop-place l =
    named_places_view l.places.items ≡ map (λ place. named_place l.names (place_view place))
    (take l.place-index l.cycle)
