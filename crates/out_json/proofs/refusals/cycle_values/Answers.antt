-- All events.
use Rattle.std.proofs.Common.{arith}
use Rattle.std.proofs.lemmas.List.{take_all}
use Rattle.pd_report.specs.Views.{named_place_view}
use Rattle.serde_json.specs.View.{view}
use Rattle.out_json.specs.JsonReports.{place_data}
use Rattle.out_json.proofs.Listed.{all_seen}
use Rattle.out_json.proofs.refusals.cycle_values.Goals as goal

pub returns : goal.returns
returns c =
    all_seen view place_data named_place_view c.loop-name.values.items c.args.places.now _
    c.loop-name.invariant (take_all c.loop-name.name-index c.args.places.now (omega arith))
