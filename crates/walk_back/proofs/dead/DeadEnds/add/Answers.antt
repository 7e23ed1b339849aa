-- The key goes to its place.
use Rattle.std.proofs.Common.{◌≡◌, ◌≤◌, inr, ℕ, List, ◌∷◌, ◌++◌, length, map, take, drop, sym, ap, ◌∙◌, subst, arith}
use Rattle.std.proofs.lemmas.List.{drop-map, length-map, map-append, take-map}
use Rattle.std.specs.List.{insert}
use Rattle.walk_keys.specs.Keys.{AreDigits, key_of}
use Rattle.walk_back.proofs.dead.DeadEnds.add.Goals as goal

map_insert : {A : Type 0} (f : A → ℕ) (xs : List A) (i : ℕ) (x : A)
    → map f (insert xs i x) ≡ insert (map f xs) i (f x)
map_insert f xs i x =
    map-append f (take i xs) (x ∷ drop i xs)
    ∙ (ap (λ (ys : List ℕ). ys ++ f x ∷ map f (drop i xs)) (sym (take-map f i xs))
    ∙ ap (λ (ys : List ℕ). take i (map f xs) ++ f x ∷ ys) (sym (drop-map f i xs)))

pub returns : goal.returns
returns g c =
    let number = g.K.Key.number in
    let keys = c.self.inside.keys.items in
    let i = c.count_below-i.result in
    let same : c.counts.result.now ≡ c.args.cut.now = c.counts.ensures in
    let within : i ≤ length c.args.self.now =
    omega (
      arith,
      c.count_below-i.ensures,
      ap length c.deref.ensures.value,
      length-map keys number,
      ap length c.self.view_is,
    ) in
    let new : map number c.insert.new.self.items ≡ insert (map number keys) i (number c.in-Some.key) =
    ap (map number) c.in_ok-insert.ensures.items ∙ map_insert number keys i c.in-Some.key in
    inr (
      i,
      within,
      subst AreDigits same c.in-Some.ensures.some.0,
      new ∙ (ap (λ (xs : List ℕ). insert xs i (number c.in-Some.key)) c.self.view_is
          ∙ ap (insert c.args.self.now i) (c.in-Some.ensures.some.1 ∙ ap key_of same)),
    )
