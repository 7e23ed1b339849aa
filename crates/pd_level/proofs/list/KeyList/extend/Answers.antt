-- The numbers of what is added are those of the other list.
use Rattle.std.proofs.Common.{◌≡◌, ℕ, List, ◌++◌, drop, map, sym, ap, ◌∙◌}
use Rattle.std.proofs.lemmas.List.{drop-map, map-append, take_rest}
use Rattle.pd_level.proofs.list.KeyList.extend.Goals as goal

pub returns : goal.returns
returns g c =
    let f = g.K.Key.number in
    let old = c.self.inside.keys.items in
    let other = c.other.inside.keys.items in
    let added : c.extend_from_slice.new.self.items ≡ old ++ drop c.args.from other =
    c.in_ok-extend_from_slice.ensures.items
    ∙ (ap (λ xs. old ++ xs) (take_rest c.deref.result.now c.args.from)
    ∙ ap (λ xs. old ++ drop c.args.from xs) c.deref.ensures.value) in
    ap (map f) added
    ∙ (map-append f old (drop c.args.from other)
    ∙ (ap (λ (xs : List ℕ). xs ++ map f (drop c.args.from other)) c.self.view_is
    ∙ ap (λ (xs : List ℕ). c.args.self.now ++ xs) (sym (drop-map f c.args.from other)
    ∙ ap (drop c.args.from) c.other.view_is)))
