-- The first of the least cuts of the terms is the first satisfying one.
use Rattle.std.proofs.Common.{List, ℕ, length, Option, subst}
use Rattle.def_model.specs.Predicates.{test_of}
use Rattle.def_wide.specs.Parts.{opposite_if}
use Rattle.pd_pred.specs.Trees.{tree_view}
use Rattle.wide_terms.specs.FirstCuts.{IsFirstSoFar, goods_of}
use Rattle.wide_terms.specs.Rows.{numbers_view}
use Rattle.wide_terms.proofs.Allowed.{terms_good}
use Rattle.wide_terms.proofs.Opposites.{opposite_few}
use Rattle.wide_terms.proofs.first.first_by_terms.Goals as goal

pub of-requires : goal.of-requires
of-requires c = ((opposite_few c.args.negated (tree_view c.args.tree.now)).0 c.requires).0

pub returns-in-Some : goal.returns-in-Some
returns-in-Some c =
    let r = c.args.computation.now in
    let predicate = tree_view c.args.tree.now in
    let terms = c.in_ok-terms.terms in
    let goods = goods_of terms.rows.items (numbers_view terms.terms.items) in
    c.first_of_least.ensures.first r.events (test_of r (opposite_if c.args.negated predicate)) goods
    (length terms.terms.items) c.in-Some.cut
    (terms_good c.args.negated r predicate terms c.in_ok-terms.ensures.hold c.in_ok-terms.ensures.within
    c.limits.ensures.some)
    (subst (λ (found : Option (List ℕ)). IsFirstSoFar r.events goods (length terms.terms.items) found) c.in-Some.is
    c.in_ok-cut.ensures)

pub returns : goal.returns
returns c =
    let r = c.args.computation.now in
    let predicate = tree_view c.args.tree.now in
    let terms = c.in_ok-terms.terms in
    let goods = goods_of terms.rows.items (numbers_view terms.terms.items) in
    c.first_of_least.ensures.none r.events (test_of r (opposite_if c.args.negated predicate)) goods
    (length terms.terms.items)
    (terms_good c.args.negated r predicate terms c.in_ok-terms.ensures.hold c.in_ok-terms.ensures.within
    c.limits.ensures.some)
    (subst (λ (found : Option (List ℕ)). IsFirstSoFar r.events goods (length terms.terms.items) found) c.in-None.is
    c.in_ok-cut.ensures)
