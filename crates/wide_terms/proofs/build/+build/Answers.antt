-- How the terms of a predicate come from those of its parts.
use Rattle.std.proofs.Common.{◌≡◌, List, ℕ, ◌∷◌, [], ◌++◌, refl, sym, ap, ◌∙◌, subst}
use Rattle.std.proofs.lemmas.Result.{IfOk-weaker}
use Rattle.std.specs.Prelude.{Bool, true, false, not, cond}
use Rattle.def_model.specs.Predicates.{Predicate, And, Or, test_of}
use Rattle.pd_pred.specs.Trees.{tree_view}
use Rattle.wide_terms.specs.Rows.{MakesTerms, numbers_view, products, turned}
use Rattle.wide_terms.proofs.Building.{made_constant, made_and, made_or}
use Rattle.wide_terms.proofs.build.+build.Goals as goal

turned_true : (negated : Bool) → turned negated true ≡ not negated
turned_true true = refl
turned_true false = refl

turned_false : (negated : Bool) → turned negated false ≡ negated
turned_false true = refl
turned_false false = refl

pub returns-in-Always-clause-made : goal.returns-in-Always-clause-made
returns-in-Always-clause-made t c =
    IfOk-weaker c.constant.result (λ terms. numbers_view terms.items ≡ cond (not c.args.negated) ([] ∷ []) [])
    (λ terms. MakesTerms c.args.computation.now c.args.negated (tree_view c.args.tree.now) c.args.rows.now.items
    c.args.rows.now.items (numbers_view terms.items))
    (λ terms is. subst (λ (ts : List (List ℕ)). MakesTerms c.args.computation.now c.args.negated
    (tree_view c.args.tree.now) c.args.rows.now.items c.args.rows.now.items ts) (sym is)
    (made_constant c.args.computation.now c.args.negated (tree_view c.args.tree.now) c.args.rows.now.items
    (not c.args.negated) (λ cut. ap (λ (p : Predicate). turned c.args.negated (test_of c.args.computation.now p cut))
    (ap tree_view c.in-Always.is) ∙ turned_true c.args.negated)))
    c.constant.ensures

pub returns-in-Never-clause-made : goal.returns-in-Never-clause-made
returns-in-Never-clause-made t c =
    IfOk-weaker c.constant-in-Never.result (λ terms. numbers_view terms.items ≡ cond c.args.negated ([] ∷ []) [])
    (λ terms. MakesTerms c.args.computation.now c.args.negated (tree_view c.args.tree.now) c.args.rows.now.items
    c.args.rows.now.items (numbers_view terms.items))
    (λ terms is. subst (λ (ts : List (List ℕ)). MakesTerms c.args.computation.now c.args.negated
    (tree_view c.args.tree.now) c.args.rows.now.items c.args.rows.now.items ts) (sym is)
    (made_constant c.args.computation.now c.args.negated (tree_view c.args.tree.now) c.args.rows.now.items
    c.args.negated (λ cut. ap (λ (p : Predicate). turned c.args.negated (test_of c.args.computation.now p cut))
    (ap tree_view c.in-Never.is) ∙ turned_false c.args.negated)))
    c.constant-in-Never.ensures

pub returns-in_ok-number-in-Compare-clause-made : goal.returns-in_ok-number-in-Compare-clause-made
returns-in_ok-number-in-Compare-clause-made t c =
    IfOk-weaker c.single.result (λ terms. numbers_view terms.items ≡ (c.in_ok-number-in-Compare.number ∷ []) ∷ [])
    (λ terms. MakesTerms c.args.computation.now c.args.negated (tree_view c.args.tree.now) c.args.rows.now.items
    c.row_number.new.rows.items (numbers_view terms.items))
    (λ terms is. subst (λ (ts : List (List ℕ)). MakesTerms c.args.computation.now c.args.negated
    (tree_view c.args.tree.now) c.args.rows.now.items c.row_number.new.rows.items ts) (sym is)
    c.in_ok-number-in-Compare.ensures.made) c.single.ensures

pub returns-in_ok-second-in-And-clause-made : goal.returns-in_ok-second-in-And-clause-made
returns-in_ok-second-in-And-clause-made t c =
    let same : And (tree_view c.deref-in-And.result.now) (tree_view c.deref-in-And-2.result.now)
    ≡ tree_view c.args.tree.now =
    rw (c.deref-in-And.ensures, c.deref-in-And-2.ensures, c.in-And.is) refl in
    IfOk-weaker c.joined.result (λ terms. numbers_view terms.items ≡ cond c.args.negated
    (numbers_view c.in_ok-first-in-And.first.items ++ numbers_view c.in_ok-second-in-And.second.items)
    (products (numbers_view c.in_ok-first-in-And.first.items) (numbers_view c.in_ok-second-in-And.second.items)))
    (λ terms. MakesTerms c.args.computation.now c.args.negated (tree_view c.args.tree.now) c.args.rows.now.items
    c.build-in-And-2.new.rows.items (numbers_view terms.items))
    (λ terms is. subst (λ (ts : List (List ℕ)). MakesTerms c.args.computation.now c.args.negated
    (tree_view c.args.tree.now) c.args.rows.now.items c.build-in-And-2.new.rows.items ts) (sym is)
    (subst (λ (p : Predicate). MakesTerms c.args.computation.now c.args.negated p c.args.rows.now.items
    c.build-in-And-2.new.rows.items (cond c.args.negated
    (numbers_view c.in_ok-first-in-And.first.items ++ numbers_view c.in_ok-second-in-And.second.items)
    (products (numbers_view c.in_ok-first-in-And.first.items) (numbers_view c.in_ok-second-in-And.second.items)))) same
    (made_and c.args.computation.now c.args.negated (tree_view c.deref-in-And.result.now)
    (tree_view c.deref-in-And-2.result.now) c.args.rows.now.items c.build-in-And.new.rows.items
    c.build-in-And-2.new.rows.items (numbers_view c.in_ok-first-in-And.first.items)
    (numbers_view c.in_ok-second-in-And.second.items) c.in_ok-first-in-And.ensures.made
    c.in_ok-second-in-And.ensures.made)))
    c.joined.ensures

pub returns-in_ok-second-in-Or-clause-made : goal.returns-in_ok-second-in-Or-clause-made
returns-in_ok-second-in-Or-clause-made t c =
    let same : Or (tree_view c.deref-in-Or.result.now) (tree_view c.deref-in-Or-2.result.now)
    ≡ tree_view c.args.tree.now =
    rw (c.deref-in-Or.ensures, c.deref-in-Or-2.ensures, c.in-Or.is) refl in
    IfOk-weaker c.joined-in-Or.result (λ terms. numbers_view terms.items ≡ cond (not c.args.negated)
    (numbers_view c.in_ok-first-in-Or.first.items ++ numbers_view c.in_ok-second-in-Or.second.items)
    (products (numbers_view c.in_ok-first-in-Or.first.items) (numbers_view c.in_ok-second-in-Or.second.items)))
    (λ terms. MakesTerms c.args.computation.now c.args.negated (tree_view c.args.tree.now) c.args.rows.now.items
    c.build-in-Or-2.new.rows.items (numbers_view terms.items))
    (λ terms is. subst (λ (ts : List (List ℕ)). MakesTerms c.args.computation.now c.args.negated
    (tree_view c.args.tree.now) c.args.rows.now.items c.build-in-Or-2.new.rows.items ts) (sym is)
    (subst (λ (p : Predicate). MakesTerms c.args.computation.now c.args.negated p c.args.rows.now.items
    c.build-in-Or-2.new.rows.items (cond (not c.args.negated)
    (numbers_view c.in_ok-first-in-Or.first.items ++ numbers_view c.in_ok-second-in-Or.second.items)
    (products (numbers_view c.in_ok-first-in-Or.first.items) (numbers_view c.in_ok-second-in-Or.second.items)))) same
    (made_or c.args.computation.now c.args.negated (tree_view c.deref-in-Or.result.now)
    (tree_view c.deref-in-Or-2.result.now) c.args.rows.now.items c.build-in-Or.new.rows.items
    c.build-in-Or-2.new.rows.items (numbers_view c.in_ok-first-in-Or.first.items)
    (numbers_view c.in_ok-second-in-Or.second.items) c.in_ok-first-in-Or.ensures.made
    c.in_ok-second-in-Or.ensures.made)))
    c.joined-in-Or.ensures
