-- What is sure of a predicate, by what is of its parts.
use Rattle.std.proofs.Common.{◌≡◌, Bool, List, not, refl, subst}
use Rattle.def_model.specs.Predicates.{Predicate, And, Compare, Not, Or}
use Rattle.pd_pred.specs.Trees.{comparison_view, sum_view, tree_view}
use Rattle.wide_gates.specs.Sure.{AreJoined, AreWhere}
use Rattle.wide_gates.proofs.Surely.{where_and, where_compare, where_not, where_or}
use Rattle.wide_gates.proofs.sure.+where_surely.Goals as goal

pub returns-in_ok-where_excluded_as-in-Compare : goal.returns-in_ok-where_excluded_as-in-Compare
returns-in_ok-where_excluded_as-in-Compare t c =
    let flags = c.in_ok-where_excluded_as-in-Compare.field-0.items in
    let same : Compare (sum_view c.in-Compare.left) (comparison_view c.in-Compare.comparison)
    (sum_view c.in-Compare.right) ≡ tree_view c.args.tree.now = rw c.in-Compare.is refl in
    subst (λ (p : Predicate). AreWhere c.args.value c.args.computation.now c.args.spots.now p flags) same
    (where_compare c.args.value c.args.computation.now c.args.spots.now (sum_view c.in-Compare.left)
    (comparison_view c.in-Compare.comparison) (comparison_view c.excluding-by.result) (sum_view c.in-Compare.right)
    flags c.excluding-by.ensures c.in_ok-where_excluded_as-in-Compare.ensures)

pub returns-in_ok-where_surely-in-Not : goal.returns-in_ok-where_surely-in-Not
returns-in_ok-where_surely-in-Not t c =
    let inner = tree_view c.deref.result.now in
    let flags = c.in_ok-where_surely-in-Not.field-0.items in
    let same : Not inner ≡ tree_view c.args.tree.now = rw (c.deref.ensures, c.in-Not.is) refl in
    subst (λ (p : Predicate). AreWhere c.args.value c.args.computation.now c.args.spots.now p flags) same
    (where_not c.args.value c.args.computation.now c.args.spots.now inner flags
    c.in_ok-where_surely-in-Not.ensures)

pub returns-in_ok-joined-in-And : goal.returns-in_ok-joined-in-And
returns-in_ok-joined-in-And t c =
    let left = tree_view c.deref-in-And.result.now in
    let right = tree_view c.deref-in-And-2.result.now in
    let flags = c.in_ok-joined-in-And.field-0.items in
    let same : And left right ≡ tree_view c.args.tree.now =
    rw (c.deref-in-And.ensures, c.deref-in-And-2.ensures, c.in-And.is) refl in
    subst (λ (p : Predicate). AreWhere c.args.value c.args.computation.now c.args.spots.now p flags) same
    (where_and c.args.computation.now c.args.spots.now left right c.in_ok-first-in-And.first.items
    c.in_ok-second-in-And.second.items flags c.args.value c.in_ok-first-in-And.ensures c.in_ok-second-in-And.ensures
    (subst (λ (p : List Bool × List Bool). AreJoined c.args.value p.0 p.1 flags)
    (λ i. (c.deref-in-And-3.ensures.value i, c.deref-in-And-4.ensures.value i)) c.in_ok-joined-in-And.ensures))

pub returns-in_ok-joined-in-Or : goal.returns-in_ok-joined-in-Or
returns-in_ok-joined-in-Or t c =
    let left = tree_view c.deref-in-Or.result.now in
    let right = tree_view c.deref-in-Or-2.result.now in
    let flags = c.in_ok-joined-in-Or.field-0.items in
    let same : Or left right ≡ tree_view c.args.tree.now =
    rw (c.deref-in-Or.ensures, c.deref-in-Or-2.ensures, c.in-Or.is) refl in
    subst (λ (p : Predicate). AreWhere c.args.value c.args.computation.now c.args.spots.now p flags) same
    (where_or c.args.computation.now c.args.spots.now left right c.in_ok-first-in-Or.first.items
    c.in_ok-second-in-Or.second.items flags c.args.value c.in_ok-first-in-Or.ensures c.in_ok-second-in-Or.ensures
    (subst (λ (p : List Bool × List Bool). AreJoined (not c.args.value) p.0 p.1 flags)
    (λ i. (c.deref-in-Or-3.ensures.value i, c.deref-in-Or-4.ensures.value i)) c.in_ok-joined-in-Or.ensures))
