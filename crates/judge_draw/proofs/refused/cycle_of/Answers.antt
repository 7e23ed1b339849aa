-- A place whose process isn't found is none of the processes that are there.
use Rattle.std.proofs.Common.{List, ℕ, ap, ◌∙◌, arith}
use Rattle.def_format.specs.Reports.{NamedPlace}
use Rattle.pd_report.specs.Views.{named_place_view}
use Rattle.judge_draw.proofs.CycleNames.{place_missing}
use Rattle.judge_draw.proofs.refused.cycle_of.Goals as goal

pub returns-in-None : goal.returns-in-None
returns-in-None c =
    let place = c.loop-name-item.result in
    place_missing c.args.names.now c.args.places.now c.loop-name.name-index
    (record { name = c.deref.result.now; number = place.1 }) place (omega arith)
    (ap (λ (name : List ℕ). let r : NamedPlace = record { name = name; number = place.1 } in r) c.deref.ensures
    ∙ ap named_place_view c.loop-name-item.is) c.in-None.ensures
