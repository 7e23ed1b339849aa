-- Both sides of an `or`, or of an `and` that is negated.
use Rattle.std.proofs.Common.{◌≡◌, ◌⊎◌, inl, inr, IsTrue, ap, subst, arith}
use Rattle.std.proofs.lemmas.Bool.{false≢true}
use Rattle.def_model.specs.Predicates.{Predicate, And, Or, test_of}
use Rattle.def_wide.specs.Parts.{opposite_if}
use Rattle.pd_pred.specs.Trees.{tree_view}
use Rattle.wide.proofs.FirstOfParts.{first_small, is_either}
use Rattle.wide.proofs.parts.+first_of_parts.Goals as goal

pub first_of_both-requires-clause-first : goal.first_of_both-requires-clause-first
first_of_both-requires-clause-first t c =
    first_small c.args.computation.now.events
    (test_of c.args.computation.now (opposite_if c.args.negated (tree_view c.deref-in-And.result.now))) 160000
    c.in_ok-first-in-And.first (omega (arith, c.total.ensures.sum, c.total.ensures.small))
    c.in_ok-first-in-And.ensures

pub first_of_both-requires-clause-second : goal.first_of_both-requires-clause-second
first_of_both-requires-clause-second t c =
    first_small c.args.computation.now.events
    (test_of c.args.computation.now (opposite_if c.args.negated (tree_view c.deref-in-And-2.result.now))) 160000
    c.in_ok-second-in-And.second (omega (arith, c.total.ensures.sum, c.total.ensures.small))
    c.in_ok-second-in-And.ensures

pub returns-in_ok-second-in-And : goal.returns-in_ok-second-in-And
returns-in_ok-second-in-And t c =
    let r = c.args.computation.now in
    let negated = c.args.negated in
    let left : Predicate = tree_view c.in-And.left.value in
    let right : Predicate = tree_view c.in-And.right.value in
    let sides : (tree_view c.args.tree.now ≡ And left right) ⊎ (tree_view c.args.tree.now ≡ Or left right) =
    elim c.in-And.is [ inl is ↦ inl (ap tree_view is) | inr is ↦ inr (ap tree_view is) ] in
    c.first_of_both.ensures r.events (test_of r (opposite_if negated left)) (test_of r (opposite_if negated right))
    (test_of r (opposite_if negated (tree_view c.args.tree.now)))
    (is_either negated r (tree_view c.args.tree.now) left right sides c.requires
    (λ decides. false≢true (subst IsTrue c.if-is_decided.false (c.is_decided.ensures.1 decides))))
    (rw c.deref-in-And.ensures at c.in_ok-first-in-And.ensures)
    (rw c.deref-in-And-2.ensures at c.in_ok-second-in-And.ensures)
