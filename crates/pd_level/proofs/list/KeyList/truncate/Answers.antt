-- The numbers of the first keys are the first numbers.
use Rattle.std.proofs.Common.{map, take, sym, ap, ◌∙◌}
use Rattle.std.proofs.lemmas.List.{take-map}
use Rattle.pd_level.proofs.list.KeyList.truncate.Goals as goal

pub returns : goal.returns
returns g c =
    let f = g.K.Key.number in
    ap (map f) c.truncate.ensures.items
    ∙ (sym (take-map f c.args.count c.self.inside.keys.items) ∙ ap (take c.args.count) c.self.view_is)
