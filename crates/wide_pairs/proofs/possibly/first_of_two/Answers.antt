-- The predicate is of two, and the pairs of their counts decide it.
use Rattle.std.proofs.Common.{refl}
use Rattle.def_model.specs.Predicates.{test_of}
use Rattle.def_wide.specs.Parts.{opposite_if}
use Rattle.pd_pred.specs.Trees.{tree_view}
use Rattle.wide_pairs.specs.Tests.{pair_holds}
use Rattle.wide_pairs.proofs.Deciding.{of_pair}
use Rattle.wide_pairs.proofs.possibly.first_of_two.Goals as goal

pub returns-in_default : goal.returns-in_default
returns-in_default c = absurd (c.in_default.ensures c.requires)

pub returns-in-Some-first : goal.returns-in-Some-first
returns-in-Some-first c =
    let r = c.args.computation.now in
    let pair = c.in-Some.pair in
    let predicate = opposite_if c.args.negated (tree_view c.args.tree.now) in
    (rw c.in-Some-first.is at c.in_ok-first.ensures.some) (test_of r predicate)
    (of_pair r pair.first pair.second predicate predicate (pair_holds c.in_ok-test.test) refl c.in_ok-test.ensures)

pub returns : goal.returns
returns c =
    let r = c.args.computation.now in
    let pair = c.in-Some.pair in
    let predicate = opposite_if c.args.negated (tree_view c.args.tree.now) in
    (rw c.in-None.is at c.in_ok-first.ensures.none) (test_of r predicate)
    (of_pair r pair.first pair.second predicate predicate (pair_holds c.in_ok-test.test) refl c.in_ok-test.ensures)
