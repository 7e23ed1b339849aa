-- The lanes have the names of the document's processes.
use Rattle.std.proofs.Common.{List, ℕ, map, ap, ◌∙◌, subst}
use Rattle.std.specs.Prelude.{IfOk}
use Rattle.def_format.specs.Names.{ProcessNames}
use Rattle.out_picture.specs.Cycles.{IsCyclePicture}
use Rattle.out_picture.specs.Pictures.{texts_view}
use Rattle.pd_clock.specs.Orders.{places_view}
use Rattle.pd_match.specs.Views.{pairs_view}
use Rattle.read_traces.specs.Views.{computation_view}
use Rattle.judge_draw.proofs.refused.run_picture.Goals as goal

pub returns : goal.returns
returns c =
    subst (λ (names : List (List ℕ)). IfOk c.cycle_picture.result (λ picture. IsCyclePicture
    (computation_view c.args.traces.now) (pairs_view c.args.pairs.now) names c.args.title.now
    (places_view c.args.cycle.now) c.args.extent picture.drawing))
    (ap texts_view c.deref.ensures.value ∙ (c.in_ok-lanes.ensures
    ∙ ap (λ (names : List ProcessNames). map (λ process. process.name) names) c.names.ensures))
    c.cycle_picture.ensures
