-- The events so far.
use Rattle.std.proofs.Common.{◌≡◌, map, take}
use Rattle.pd_report.specs.Views.{named_place_view}
use Rattle.serde_json.specs.View.{view}
use Rattle.out_json.specs.JsonReports.{place_data}
use Rattle.out_json.proofs.refusals.cycle_values.Given as goal

abbrev pub invariant-loop-name : goal.invariant-loop-name
invariant-loop-name l =
    map view l.values.items ≡ map (λ place. place_data (named_place_view place)) (take l.name-index l.places)
