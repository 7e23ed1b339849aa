-- One factor more.
use Rattle.std.proofs.Common.{List, ℕ, ◌++◌, map, take, sym, ap, ◌∙◌, arith}
use Rattle.std.specs.Global.{Global}
use Rattle.std.specs.Prelude.{Vec}
use Rattle.wide_terms.specs.Rows.{numbers_view, products}
use Rattle.wide_terms.proofs.Building.{products_more}
use Rattle.wide_terms.proofs.joins.product.Goals as goal

pub loop-i-preserved : goal.loop-i-preserved
loop-i-preserved c =
    c.in_ok-push_each.ensures
    ∙ (ap (λ (terms : List (List ℕ)). terms
    ++ map (λ (other : List ℕ). c.deref.result.now ++ other) (numbers_view c.args.second.now)) c.loop-i.invariant
    ∙ (ap (λ (term : List ℕ). products (numbers_view (take c.loop-i.i c.args.first.now))
    (numbers_view c.args.second.now)
    ++ map (λ (other : List ℕ). term ++ other) (numbers_view c.args.second.now)) (c.deref.ensures.value
    ∙ ap (λ (v : Vec ℕ Global). v.items) c.index-first-i.is)
    ∙ sym (products_more c.args.first.now c.loop-i.i c.index-first-i.result (numbers_view c.args.second.now)
    (omega arith))))
