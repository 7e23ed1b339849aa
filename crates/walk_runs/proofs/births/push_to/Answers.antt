-- A birth is added to one of the lists.
use Rattle.std.proofs.Common.{◌-◌, ◌<◌, length, ◌∙◌, ap, arith, Vec, ◌++◌, ◌∷◌, []}
use Rattle.std.specs.Global.{Global}
use Rattle.walk_runs.specs.Kept.{birth_view}
use Rattle.walk_runs.specs.declared.kept_birth.KeptBirth.{KeptBirth}
use Rattle.walk_runs.proofs.Collecting.{births_push}
use Rattle.walk_runs.proofs.births.push_to.Goals as goal

pub returns : goal.returns
returns g c =
    let view = birth_view g.K.Key.number in
    let place = c.len-last.result - 1 - c.min.result in
    let within : c.len-last.result - 1 - c.min.result < length c.args.lists.now.items =
    omega (arith, c.requires, c.len-last.ensures) in
    births_push view c.args.lists.now.items place c.push.new.self c.index_mut.result.now c.args.birth within
    (c.in_ok-push.ensures.items
    ∙ ap (λ (list : Vec (KeptBirth g.row.K.Denot) Global). list.items ++ c.args.birth ∷ []) c.index_mut.ensures.value)
