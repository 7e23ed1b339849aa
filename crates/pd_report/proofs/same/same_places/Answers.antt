-- Events that differ at one place.
use Rattle.std.proofs.Common.{◌≡◌, ℕ, zero, suc, ◌<◌, length, List, [], ◌∷◌, get_or, map, sym, ◌∙◌, ap, arith, true, false}
use Rattle.pd_report.specs.Views.{named_place_view}
use Rattle.pd_report.proofs.same.same_places.Goals as goal

same_at : {A B : Type 0} (f : A → B) (xs ys : List A) (i : ℕ) (d e : A) → map f xs ≡ map f ys → i < length xs
    → i < length ys → f (get_or xs i d) ≡ f (get_or ys i e)
same_at f [] ys i d e same in_xs in_ys = absurd (omega arith)
same_at f (x ∷ xs) [] i d e same in_xs in_ys = absurd (omega arith)
same_at f (x ∷ xs) (y ∷ ys) zero d e same in_xs in_ys = cc
same_at f (x ∷ xs) (y ∷ ys) (suc i) d e same in_xs in_ys =
    same_at f xs ys i d e (let rest : map f xs ≡ map f ys = cc in rest) (omega arith) (omega arith)

pub returns-then-not-same_place : goal.returns-then-not-same_place
returns-then-not-same_place c = (
  λ (no' : false ≡ true). absurd (cc),
  λ same.
      let in_b : c.loop-i.i < length c.args.b.now = omega (arith, c.loop-i-test.true, c.if-a-b.false) in
      c.if-not-same_place.ensures.1
      (ap named_place_view c.index-a-i.is
      ∙ same_at named_place_view c.args.a.now c.args.b.now c.loop-i.i c.index-a-i.result c.index-b-i.result same
      c.loop-i-test.true in_b
      ∙ ap named_place_view (sym c.index-b-i.is)),
)
