-- Two more digits at the low end.
use Rattle.std.proofs.Common.{◌≡◌, ◌+◌, ◌-◌, ◌*◌, ◌^◌, ◌≤◌, sym, ap, ◌∙◌, arith}
use Rattle.walk_keys.specs.Keys.{count_base}
use Rattle.walk_keys.proofs.Keys.{weight_le}
use Rattle.walk_runs.specs.Kept.{KeyedCut}
use Rattle.walk_runs.proofs.PointFacts.{key_of_point}
use Rattle.walk_runs.proofs.point.key_of_cut.Goals as goal

pub with_two-requires-clause-few : goal.with_two-requires-clause-few
with_two-requires-clause-few g c =
    let key : g.K.Key.number c.point.inside.key ≡ c.args.point.now.key =
    ap (λ (point : KeyedCut). point.key) c.point.view_is in
    let few : c.args.prefix ≤ g.K.Key.room - 2 = omega (arith, c.requires.few) in
    let most : count_base ^ c.args.prefix ≤ count_base ^ (g.K.Key.room - 2) =
    weight_le c.args.prefix (g.K.Key.room - 2) few in
    omega (arith, c.requires.below)

pub returns : goal.returns
returns g c =
    let key : g.K.Key.number c.point.inside.key ≡ c.args.point.now.key =
    ap (λ (point : KeyedCut). point.key) c.point.view_is in
    let x : c.from.result ≡ c.args.point.now.x =
    c.from.ensures ∙ ap (λ (point : KeyedCut). point.x) c.point.view_is in
    let y : c.from-2.result ≡ c.args.point.now.y =
    c.from-2.ensures ∙ ap (λ (point : KeyedCut). point.y) c.point.view_is in
    let made : g.K.Key.number c.with_two.result
    ≡ (c.args.point.now.key * count_base + c.args.point.now.x) * count_base + c.args.point.now.y =
    omega (arith, c.with_two.ensures) in
    made ∙ sym (key_of_point c.args.prefix c.args.point.now c.requires.below)
