-- What is written is what stands at the other index.
use Rattle.std.proofs.Common.{◌≡◌, ℕ, List, length, get_or, map, set, sym, ap, ◌∙◌, arith}
use Rattle.std.proofs.lemmas.List.{get_or-map, length-map, map-set}
use Rattle.pd_level.proofs.list.KeyList.copy_within.Goals as goal

pub returns : goal.returns
returns g c =
    let f = g.K.Key.number in
    let keys = c.self.inside.keys.items in
    let read : get_or (map f keys) c.args.from 0 ≡ f c.index.result.now =
    get_or-map f keys c.args.from c.index.result.now 0
    (omega (arith, length-map keys f, ap length c.self.view_is, c.requires.from)) ∙ ap f (sym c.index.ensures) in
    map-set f keys c.args.to c.index.result.now
    ∙ (ap (λ (x : ℕ). set (map f keys) c.args.to x) (sym read)
    ∙ ap (λ (xs : List ℕ). set xs c.args.to (get_or xs c.args.from 0)) c.self.view_is)
