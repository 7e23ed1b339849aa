-- Both parts of an `or` add their rows.
use Rattle.std.proofs.Common.{◌≡◌, refl, sym, subst}
use Rattle.def_model.specs.Predicates.{Predicate, And, Or}
use Rattle.pd_pred.specs.Trees.{tree_view}
use Rattle.def_model.specs.Decided.{IsOr}
use Rattle.wide_terms.specs.Ors.{MakesRows}
use Rattle.wide_terms.proofs.Oring.{made_and_rows, made_or_rows}
use Rattle.wide_terms.proofs.clause.+push_rows.Goals as goal

pub returns-in_ok-push_rows-in-And-2 : goal.returns-in_ok-push_rows-in-And-2
returns-in_ok-push_rows-in-And-2 t c =
    let same : And (tree_view c.deref-in-And.result.now) (tree_view c.deref-in-And-2.result.now)
    ≡ tree_view c.args.tree.now =
    rw (c.deref-in-And.ensures, c.deref-in-And-2.ensures, c.in-And.is) refl in
    subst (λ (p : Predicate). MakesRows c.args.computation.now c.args.negated p c.args.rows.now.items
    c.push_rows-in-And-2.new.rows.items) same
    (made_and_rows c.args.computation.now c.args.negated (tree_view c.deref-in-And.result.now)
    (tree_view c.deref-in-And-2.result.now) c.args.rows.now.items c.push_rows-in-And.new.rows.items
    c.push_rows-in-And-2.new.rows.items
    (subst (λ (p : Predicate). IsOr c.args.negated p) (sym same) c.requires.is_or).0
    c.in_ok-push_rows-in-And.ensures c.in_ok-push_rows-in-And-2.ensures)

pub returns-in_ok-push_rows-in-Or-2 : goal.returns-in_ok-push_rows-in-Or-2
returns-in_ok-push_rows-in-Or-2 t c =
    let same : Or (tree_view c.deref-in-Or.result.now) (tree_view c.deref-in-Or-2.result.now)
    ≡ tree_view c.args.tree.now =
    rw (c.deref-in-Or.ensures, c.deref-in-Or-2.ensures, c.in-Or.is) refl in
    subst (λ (p : Predicate). MakesRows c.args.computation.now c.args.negated p c.args.rows.now.items
    c.push_rows-in-Or-2.new.rows.items) same
    (made_or_rows c.args.computation.now c.args.negated (tree_view c.deref-in-Or.result.now)
    (tree_view c.deref-in-Or-2.result.now) c.args.rows.now.items c.push_rows-in-Or.new.rows.items
    c.push_rows-in-Or-2.new.rows.items
    (subst (λ (p : Predicate). IsOr c.args.negated p) (sym same) c.requires.is_or).0
    c.in_ok-push_rows-in-Or.ensures c.in_ok-push_rows-in-Or-2.ensures)
