-- How the terms of a predicate come from those of its parts.
use Rattle.std.proofs.Common.{◌≡◌, ◌++◌, refl, sym, ap, ◌∙◌}
use Rattle.def_model.specs.Predicates.{Predicate, And, Or}
use Rattle.def_wide.specs.Terms as model
use Rattle.pd_pred.specs.Trees.{tree_view}
use Rattle.wide_terms.specs.Rows.{numbers_view}
use Rattle.std.specs.Prelude.{not}
use Rattle.wide_sums.proofs.Making.{choice_turned, made_constant, made_joined, terms_of_always, terms_of_never}
use Rattle.wide_sums.proofs.literals.+build.Goals as goal

pub returns-in_ok-constant-in-Always : goal.returns-in_ok-constant-in-Always
returns-in_ok-constant-in-Always t c =
    made_constant (not c.args.negated) (model.terms_of c.args.negated (tree_view c.args.tree.now))
    c.args.literals.now.items (numbers_view c.in_ok-constant-in-Always.field-0.items) c.in_ok-constant-in-Always.ensures
    (ap (λ (p : Predicate). model.terms_of c.args.negated p) (ap tree_view c.in-Always.is)
    ∙ terms_of_always c.args.negated)

pub returns-in_ok-constant-in-Never : goal.returns-in_ok-constant-in-Never
returns-in_ok-constant-in-Never t c =
    made_constant c.args.negated (model.terms_of c.args.negated (tree_view c.args.tree.now))
    c.args.literals.now.items (numbers_view c.in_ok-constant-in-Never.field-0.items) c.in_ok-constant-in-Never.ensures
    (ap (λ (p : Predicate). model.terms_of c.args.negated p) (ap tree_view c.in-Never.is)
    ∙ terms_of_never c.args.negated)

pub returns-in_ok-joined-in-And : goal.returns-in_ok-joined-in-And
returns-in_ok-joined-in-And t c =
    let left = tree_view c.deref-in-And.result.now in
    let right = tree_view c.deref-in-And-2.result.now in
    let one = model.terms_of c.args.negated left in
    let two = model.terms_of c.args.negated right in
    let same : And left right ≡ tree_view c.args.tree.now =
    rw (c.deref-in-And.ensures, c.deref-in-And-2.ensures, c.in-And.is) refl in
    made_joined c.args.negated one two (model.terms_of c.args.negated (tree_view c.args.tree.now))
    c.args.literals.now.items c.build-in-And.new.literals.items c.build-in-And-2.new.literals.items
    (numbers_view c.in_ok-first-in-And.first.items) (numbers_view c.in_ok-second-in-And.second.items)
    (numbers_view c.in_ok-joined-in-And.field-0.items) c.in_ok-first-in-And.ensures c.in_ok-second-in-And.ensures
    c.in_ok-joined-in-And.ensures
    (ap (λ (p : Predicate). model.terms_of c.args.negated p) (sym same))

pub returns-in_ok-joined-in-Or : goal.returns-in_ok-joined-in-Or
returns-in_ok-joined-in-Or t c =
    let left = tree_view c.deref-in-Or.result.now in
    let right = tree_view c.deref-in-Or-2.result.now in
    let one = model.terms_of c.args.negated left in
    let two = model.terms_of c.args.negated right in
    let same : Or left right ≡ tree_view c.args.tree.now =
    rw (c.deref-in-Or.ensures, c.deref-in-Or-2.ensures, c.in-Or.is) refl in
    made_joined (not c.args.negated) one two (model.terms_of c.args.negated (tree_view c.args.tree.now))
    c.args.literals.now.items c.build-in-Or.new.literals.items c.build-in-Or-2.new.literals.items
    (numbers_view c.in_ok-first-in-Or.first.items) (numbers_view c.in_ok-second-in-Or.second.items)
    (numbers_view c.in_ok-joined-in-Or.field-0.items) c.in_ok-first-in-Or.ensures c.in_ok-second-in-Or.ensures
    c.in_ok-joined-in-Or.ensures
    (ap (λ (p : Predicate). model.terms_of c.args.negated p) (sym same)
    ∙ choice_turned c.args.negated (model.products one two) (one ++ two))
