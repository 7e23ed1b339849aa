-- One name more.
use Rattle.std.proofs.Common.{List, ℕ, [], ◌∷◌, ◌++◌, map, ap, ◌∙◌}
use Rattle.std.specs.Prelude.{string_bytes}
use Rattle.std.proofs.lemmas.List.{map-append}
use Rattle.judge_draw.proofs.LaneNames.{one_more_name}
use Rattle.judge_draw.proofs.drawn.lane_names.Goals as goal

pub loop-p-preserved : goal.loop-p-preserved
loop-p-preserved c =
    ap (map string_bytes) c.in_ok-push.ensures.items
    ∙ (map-append string_bytes c.loop-p.lanes.items (c.in_ok-from_str.field-0 ∷ [])
    ∙ (ap (λ (t : List ℕ). map string_bytes c.loop-p.lanes.items ++ t ∷ []) c.in_ok-from_str.ensures.ok
    ∙ one_more_name c.args.names.now c.loop-p.p (map string_bytes c.loop-p.lanes.items) c.name.result.now
    (rw c.processes-p-end.ensures at c.loop-p-test.true) c.name.ensures c.loop-p.invariant))
